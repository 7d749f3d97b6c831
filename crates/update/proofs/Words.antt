-- What an update leaves of an entry depends on the entry's counts only in its own counts; so it may be decided in words.
use Rattle.std.proofs.Common.{◌≡◌, ℕ, suc, Bool, true, false, refl, ap, ◌∙◌}
use Rattle.endpoints.specs.declared.Endpoint.{Endpoint}
use Rattle.rules.specs.World.{more_transactions}
use Rattle.update.specs.Update.{when}
use Rattle.update.specs.Entry.{over_entry, end_entry, ended_entry, close_entry, start_entry, become_entry, entry_after, counted, link_words, start_words, more, words_after}
use Rattle.update.specs.declared.Update.{Update}
use Rattle.update.specs.declared.Then.{Then}
use Rattle.update.specs.declared.Then.TheVariants.{Keep, Begin, BeginFailed, Last, BeginEarly}

-- f takes counts as they come
abbrev Passes : (Endpoint → Endpoint) → Type 0
Passes f = (a b : ℕ) (e : Endpoint) → f (counted a b e) ≡ counted a b (f e)

when-passes : (c : Bool) (f : Endpoint → Endpoint) → Passes f → Passes (when c f)
when-passes true f p = p
when-passes false f p = λ a b e. refl

become-passes : (g : Then) (pid : ℕ) → Passes (become_entry g pid)
become-passes Keep pid a b e = refl
become-passes Begin pid a b e = refl
become-passes BeginFailed pid a b e = refl
become-passes Last pid a b e = refl
become-passes BeginEarly pid a b e = refl

-- the steps of an update, with a T row counted by `link` and a G row by `start`
abbrev stepped : (Endpoint → Endpoint) → (Endpoint → Endpoint) → Update → ℕ → Endpoint → Endpoint
stepped link start u pid e =
    when u.item close_entry (when u.end ended_entry (become_entry u.group pid (start (link (when u.cut end_entry (when u.over over_entry e))))))

module _ (u : Update) (pid : ℕ) (link start : Endpoint → Endpoint) (l s : ℕ → ℕ)
    (links : (a b : ℕ) (e : Endpoint) → link (counted a b e) ≡ counted (l a) b (when u.link more_transactions e))
    (starts : (a b : ℕ) (e : Endpoint) → start (counted a b e) ≡ counted a (s b) (when u.start start_entry e)) where
  pub stepped-is : (a b : ℕ) (e : Endpoint) → stepped link start u pid (counted a b e) ≡ counted (l a) (s b) (entry_after u pid e)
  unfolding entry_after
  stepped-is a b e =
      let e1 = when u.over over_entry e in
      let e2 = when u.cut end_entry e1 in
      let e3 = when u.link more_transactions e2 in
      let e4 = when u.start start_entry e3 in
      let e5 = become_entry u.group pid e4 in
      let e6 = when u.end ended_entry e5 in
      ap (λ (x : Endpoint). when u.item close_entry (when u.end ended_entry (become_entry u.group pid (start (link (when u.cut end_entry x)))))) (when-passes u.over over_entry (λ a b e. refl) a b e)
      ∙ (ap (λ (x : Endpoint). when u.item close_entry (when u.end ended_entry (become_entry u.group pid (start (link x))))) (when-passes u.cut end_entry (λ a b e. refl) a b e1)
      ∙ (ap (λ (x : Endpoint). when u.item close_entry (when u.end ended_entry (become_entry u.group pid (start x)))) (links a b e2)
      ∙ (ap (λ (x : Endpoint). when u.item close_entry (when u.end ended_entry (become_entry u.group pid x))) (starts (l a) b e3)
      ∙ (ap (λ (x : Endpoint). when u.item close_entry (when u.end ended_entry x)) (become-passes u.group pid (l a) (s b) e4)
      ∙ (ap (λ (x : Endpoint). when u.item close_entry x) (when-passes u.end ended_entry (λ a b e. refl) (l a) (s b) e5)
      ∙ when-passes u.item close_entry (λ a b e. refl) (l a) (s b) e6)))))

-- as the code takes them
pub words_are : (u : Update) (pid : ℕ) (e : Endpoint) → stepped (link_words u.link) (start_words u.start) u pid e ≡ words_after u pid e
words_are u pid e = stepped-is u pid (link_words u.link) (start_words u.start) (more u.link) (more u.start) (links u.link) (starts u.start) e.transactions e.groups e
  where
    links : (on : Bool) (a b : ℕ) (e : Endpoint) → link_words on (counted a b e) ≡ counted (more on a) b (when on more_transactions e)
    links true a b e = refl
    links false a b e = refl

    starts : (on : Bool) (a b : ℕ) (e : Endpoint) → start_words on (counted a b e) ≡ counted a (more on b) (when on start_entry e)
    starts true a b e = refl
    starts false a b e = refl

-- as the rules do
pub after-counted : (u : Update) (pid a b : ℕ) (e : Endpoint) → entry_after u pid (counted a b e) ≡ counted (when u.link suc a) (when u.start suc b) (entry_after u pid e)
unfolding entry_after
after-counted u pid a b e = stepped-is u pid (when u.link more_transactions) (when u.start start_entry) (when u.link suc) (when u.start suc) (links u.link) (starts u.start) a b e
  where
    links : (on : Bool) (a b : ℕ) (e : Endpoint) → when on more_transactions (counted a b e) ≡ counted (when on suc a) b (when on more_transactions e)
    links true a b e = refl
    links false a b e = refl

    starts : (on : Bool) (a b : ℕ) (e : Endpoint) → when on start_entry (counted a b e) ≡ counted a (when on suc b) (when on start_entry e)
    starts true a b e = refl
    starts false a b e = refl
