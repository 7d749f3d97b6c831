-- Laws (proved): the entries of a configuration's bytes are its endpoints.
-- Assumes nothing.
use Rattle.std.specs.Prelude.{ℕ, ◌+◌, ◌≤◌, ◌≡◌, Bool, true, false, ◌&&◌, leb, take, drop, Option, Some}
use native.Mathlib.Omega.{arith}
use Rattle.std.proofs.Math.Path.{refl}
use Rattle.std.proofs.Common.{ap, ◌∙◌, le-leb}
use mathlib.Core.List.{List, [], ◌∷◌, ◌++◌}
use Rattle.std.proofs.Math.ListN.{length}
use Rattle.std.proofs.Math.Seq.{take-length, drop-length}
use Rattle.descriptors.specs.Whole.{is_whole, whole, joined}
use Rattle.descriptors.proofs.WholeLaws.{whole_is, whole-none, whole_cut}
use Rattle.descriptors.specs.Entries.{is_of, unset, setting_after, gives_entry, entry_of, entries_in, entries_behind, entries_of}
use Rattle.descriptors.proofs.EntriesLaws.{setting_over, entries-append}
use Rattle.descriptors.proofs.Configuration.{Endpoint, Alternate, Interface, Configuration, endpoint_bytes, configuration_bytes, flat, of_endpoint, of_alternate, of_interface, behind_head, bytes_of, endpoint_entry, alternate_entries, interface_entries, endpoints_of, All, Formed, Foreign, GoodEndpoint, GoodAlternate, GoodInterface, Good}
use Rattle.descriptors.specs.declared.walk.Setting.{Setting}

-- the whole descriptors of descriptors behind each other are these
none-there : is_whole [] ≡ false
unfolding is_whole
none-there = refl

pub whole-joined : (ds : List (List ℕ)) → All Formed ds → whole (joined ds) ≡ ds
whole-joined [] h = whole-none [] none-there
whole-joined (d ∷ ds) h =
    let f = h.0 in
    let q = whole_is d (omega (arith, f.two, f.first)) (omega (arith, f.first)) in
    whole_cut d (joined ds) q
    ∙ ap (λ (n : ℕ). take n d ∷ whole (drop n d ++ joined ds)) f.first
    ∙ rw (take-length d, drop-length d) (ap (λ (xs : List (List ℕ)). d ∷ xs) (whole-joined ds h.1))

-- parts
module _ {A : Type 0} where
  pub all_append : (P : A → Type 0) (xs ys : List A) → All P xs → All P ys → All P (xs ++ ys)
  all_append P [] ys h g = g
  all_append P (x ∷ xs) ys h g = (h.0, all_append P xs ys h.1 g)

module _ {A : Type 0} where
  pub all_map : (P Q : A → Type 0) (f : (x : A) → P x → Q x) (xs : List A) → All P xs → All Q xs
  all_map P Q f [] h = tt
  all_map P Q f (x ∷ xs) h = (f x h.0, all_map P Q f xs h.1)

  pub all-flat : (P : A → Type 0) (Q : List ℕ → Type 0) (f : A → List (List ℕ)) → ((x : A) → P x → All Q (f x)) → (xs : List A) → All P xs → All Q (flat f xs)
  all-flat P Q f g [] h = tt
  all-flat P Q f g (x ∷ xs) h = all_append Q (f x) (flat f xs) (g x h.0) (all-flat P Q f g xs h.1)

-- every descriptor of a configuration is formed
endpoint-formed : (e : Endpoint) → Formed (endpoint_bytes e)
endpoint-formed e = record { two = omega arith; first = omega arith }

foreign_formed : (ds : List (List ℕ)) → All Foreign ds → All Formed ds
foreign_formed ds h = all_map Foreign Formed (λ d f. f.formed) ds h

formed-endpoint : (e : Endpoint) → GoodEndpoint e → All Formed (of_endpoint e)
formed-endpoint e g = (endpoint-formed e, foreign_formed e.others g.foreign)

formed-alternate : (n : ℕ) (a : Alternate) → GoodAlternate a → All Formed (of_alternate n a)
formed-alternate n a g = (
  record { two = omega arith; first = refl },
  all_append Formed a.others (flat of_endpoint a.endpoints) (foreign_formed a.others g.foreign)
      (all-flat GoodEndpoint Formed of_endpoint formed-endpoint a.endpoints g.endpoints),
)

formed_interface : (i : Interface) → GoodInterface i → All Formed (of_interface i)
formed_interface i g = all-flat GoodAlternate Formed (of_alternate i.number) (formed-alternate i.number) i.alternates g.alternates

formed-behind : (c : Configuration) → Good c → All Formed (behind_head c)
formed-behind c g =
    all_append Formed c.others (flat of_interface c.interfaces) (foreign_formed c.others g.foreign)
    (all-flat GoodInterface Formed of_interface formed_interface c.interfaces g.interfaces)

-- descriptors that are neither an interface's nor an endpoint's give nothing and leave the setting
module _ (value : ℕ) (s : Option Setting) where
  foreign-none : (ds : List (List ℕ)) → All Foreign ds → entries_in value s ds ≡ []
  unfolding entries_in gives_entry setting_after
  foreign-none [] h = refl
  foreign-none (d ∷ ds) h = let p = h.0.interface in let q = h.0.endpoint in rw (p, q) (foreign-none ds h.1)

foreign-stays : (s : Option Setting) (ds : List (List ℕ)) → All Foreign ds → setting_over ds s ≡ s
unfolding setting_after
foreign-stays s [] h = refl
foreign-stays s (d ∷ ds) h = let p = h.0.interface in rw p (foreign-stays s ds h.1)

-- what gives the same whatever the setting is, behind each other
each_in : {A : Type 0} (value : ℕ) (P : A → Type 0) (f g : A → List (List ℕ))
    → ((x : A) → P x → (s : Option Setting) → entries_in value s (f x) ≡ g x) → (xs : List A) → All P xs → (s : Option Setting) → entries_in value s (flat f xs) ≡ flat g xs
unfolding entries_in
each_in value P f g h [] p s = refl
each_in value P f g h (x ∷ xs) p s =
    entries-append value (f x) (flat f xs) s
    ∙ ap (λ (es : List (List ℕ)). es ++ entries_in value (setting_over (f x) s) (flat f xs)) (h x p.0 s)
    ∙ ap (λ (es : List (List ℕ)). g x ++ es) (each_in value P f g h xs p.1 (setting_over (f x) s))

-- what leaves a setting, behind each other
each_at : {A : Type 0} (value : ℕ) (s : Option Setting) (P : A → Type 0) (f g : A → List (List ℕ))
    → ((x : A) → P x → entries_in value s (f x) ≡ g x) → ((x : A) → P x → setting_over (f x) s ≡ s) → (xs : List A) → All P xs → entries_in value s (flat f xs) ≡ flat g xs
unfolding entries_in
each_at value s P f g h k [] p = refl
each_at value s P f g h k (x ∷ xs) p =
    entries-append value (f x) (flat f xs) s
    ∙ ap (λ (t : Option Setting). entries_in value s (f x) ++ entries_in value t (flat f xs)) (k x p.0)
    ∙ ap (λ (es : List (List ℕ)). es ++ entries_in value s (flat f xs)) (h x p.0)
    ∙ ap (λ (es : List (List ℕ)). g x ++ es) (each_at value s P f g h k xs p.1)

and_false : (b : Bool) → (b && false) ≡ false
and_false true = refl
and_false false = refl

-- an endpoint descriptor, whatever bytes stand behind its seventh
module _ (e : Endpoint) where
  is-endpoint : is_of 5 7 (endpoint_bytes e) ≡ true
  unfolding is_of
  is-endpoint = let l : 7 ≤ length (endpoint_bytes e) = omega arith in rw (le-leb _ _ l)

  no_interface : is_of 4 9 (endpoint_bytes e) ≡ false
  unfolding is_of
  no_interface = and_false (leb 9 (length (endpoint_bytes e)))

module _ (value n a : ℕ) where
  abbrev here : Option Setting
  here = Some (record { interface = n; alternate = a })

  endpoint_in : (e : Endpoint) → GoodEndpoint e → entries_in value here (of_endpoint e) ≡ endpoint_entry value n a e
  unfolding entries_in gives_entry setting_after entry_of
  endpoint_in e g = let m = g.numbered in rw (is-endpoint e, no_interface e, m, foreign-none value here e.others g.foreign)

  one-stays : (e : Endpoint) → setting_after (endpoint_bytes e) here ≡ here
  unfolding setting_after
  one-stays e = rw (no_interface e)

  endpoint-stays : (e : Endpoint) → GoodEndpoint e → setting_over (of_endpoint e) here ≡ here
  endpoint-stays e g = ap (setting_over e.others) (one-stays e) ∙ foreign-stays here e.others g.foreign

  endpoints_in : (es : List Endpoint) → All GoodEndpoint es → entries_in value here (flat of_endpoint es) ≡ flat (endpoint_entry value n a) es
  endpoints_in es h = each_at value here GoodEndpoint of_endpoint (endpoint_entry value n a) endpoint_in endpoint-stays es h

alternate_in : (value n : ℕ) (a : Alternate) → GoodAlternate a → (s : Option Setting) → entries_in value s (of_alternate n a) ≡ alternate_entries value n a
unfolding entries_in gives_entry setting_after is_of
alternate_in value n a g s =
    let t : Option Setting = here value n a.alternate in
    entries-append value a.others (flat of_endpoint a.endpoints) t
    ∙ ap (λ (es : List (List ℕ)). es ++ entries_in value (setting_over a.others t) (flat of_endpoint a.endpoints)) (foreign-none value t a.others g.foreign)
    ∙ ap (λ (u : Option Setting). entries_in value u (flat of_endpoint a.endpoints)) (foreign-stays t a.others g.foreign)
    ∙ endpoints_in value n a.alternate a.endpoints g.endpoints

interface_in : (value : ℕ) (i : Interface) → GoodInterface i → (s : Option Setting) → entries_in value s (of_interface i) ≡ interface_entries value i
interface_in value i g s =
    each_in value GoodAlternate (of_alternate i.number) (alternate_entries value i.number) (alternate_in value i.number) i.alternates g.alternates s

behind_in : (c : Configuration) → Good c → (s : Option Setting) → entries_in c.value s (behind_head c) ≡ endpoints_of c
behind_in c g s =
    entries-append c.value c.others (flat of_interface c.interfaces) s
    ∙ ap (λ (es : List (List ℕ)). es ++ entries_in c.value (setting_over c.others s) (flat of_interface c.interfaces)) (foreign-none c.value s c.others g.foreign)
    ∙ each_in c.value GoodInterface of_interface (interface_entries c.value) (interface_in c.value) c.interfaces g.interfaces (setting_over c.others s)

behind-head : (c : Configuration) (total : ℕ) → Good c → entries_behind (configuration_bytes c total ∷ behind_head c) ≡ endpoints_of c
unfolding entries_behind is_of
behind-head c total g = behind_in c g unset

-- for every configuration whose endpoints have numbers 1 to 15, what is read of its bytes is its endpoints, in order
pub read_back : (c : Configuration) → Good c → entries_of (bytes_of c) ≡ endpoints_of c
unfolding entries_of
read_back c g =
    let total = 9 + length (joined (behind_head c)) in
    ap entries_behind (whole-joined (configuration_bytes c total ∷ behind_head c) (record { two = omega arith; first = refl }, formed-behind c g))
    ∙ behind-head c total g
