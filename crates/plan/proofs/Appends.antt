-- A packet that goes on with a transaction, decided from the world that it goes on in and done, does what the rules do (transaction_append).
use mathlib.Core.Path.{◌≡◌, refl, sym, ap, ◌∙◌}
use mathlib.Core.List.{List}
use Prim.Native.Nat.{ℕ}
use Rattle.usb.specs.Fields.{token_of}
use Rattle.transaction.specs.declared.Status.{Status}
use Rattle.transaction.specs.declared.Status.TheVariants.{New, Continue, Retry, Done, Fail, Ambiguous, Invalid}
use Rattle.transaction.specs.declared.Style.{Style}
use Rattle.transaction.specs.declared.Style.TheVariants.{Nothing, Simple, Split, Token}
use Rattle.transaction.specs.declared.Transaction.{Transaction}
use Rattle.endpoints.specs.declared.Endpoint.{Endpoint}
use Rattle.std.specs.Prelude.{Option, Some, None}
use Rattle.rules.specs.World.{World, ◌▷◌, with_transaction, with_pid, with_token, change_device}
use Rattle.rules.specs.Endpoints.{add_device, device_for, address_for, push_endpoint, add_endpoint_on, packet_endpoint_at, number_at, found, set_endpoint_type, typed}
use Rattle.rules.specs.Groups.{group_early_append}
use Rattle.rules.specs.Transactions.{append_token, transaction_append}
use Rattle.update.specs.Update.{decide_early_append, act}
use Rattle.update.specs.declared.Update.{Update}
use Rattle.update.proofs.Decided.{early-append-is}
use Rattle.plan.specs.Step.{opened, begun}
use Rattle.plan.specs.Packet.{new_on, place_at, place_of, update_for, with_token_on, appending_at, appending}
use Rattle.plan.specs.declared.Middle.{Middle}
use Rattle.plan.proofs.Alike.{Alike, same-found}
use Rattle.plan.proofs.Starts.{new-entry}
use Rattle.plan.proofs.Settles.{append-settled}

-- the statuses by which a transaction goes on, and what follows: group_early_append where the packet is Continue
pub data GoesOn : Status → Type 0 where
  continue : GoesOn Continue
  retry : GoesOn Retry
  done : GoesOn Done
  fail : GoesOn Fail
  ambiguous : GoesOn Ambiguous

abbrev pub after : Status → World → World
after New w = w
after Continue w = group_early_append w
after Retry w = w
after Done w = w
after Fail w = w
after Ambiguous w = w
after Invalid w = w

module _ (s : Status) (id pid x0 : ℕ) (packet : List ℕ) (b : Transaction) (w : World) where
  abbrev old : Endpoint
  old = w.endpoints x0

  abbrev owner : ℕ
  owner = (token_of packet).address

  abbrev address : ℕ
  address = address_for pid (token_of packet).number

  abbrev brought : World
  brought = with_transaction b w

  -- the world with the rows of a step, and its transaction
  abbrev rows_of : Middle → World
  rows_of m = with_transaction m.begin.transaction (opened id m.begin w)

  abbrev token_in : ℕ → ℕ → ℕ → World → World
  token_in sc kind x v = v ▷ set_endpoint_type x kind ▷ with_transaction (with_pid pid (with_token (Token sc kind pid) x b))

  new_is : (sc kind : ℕ) (g : Option ℕ) → token_in sc kind w.count (add_endpoint_on g owner address brought) ≡ rows_of (with_token_on s (new_on g owner address w) sc kind owner pid b)
  unfolding opened
  new_is sc kind (Some d) =
      let v = push_endpoint d address brought in
      λ i. with_transaction (with_pid pid (with_token (Token sc kind pid) w.count b)) (change_device (new-entry d address brought i).device (typed (new-entry d address brought i).address kind) v)
  new_is sc kind None =
      let u = add_device owner brought in
      let v = push_endpoint w.device_count address u in
      λ i. with_transaction (with_pid pid (with_token (Token sc kind pid) w.count b)) (change_device (new-entry w.device_count address u i).device (typed (new-entry w.device_count address u i).address kind) v)

  token-is : (sc kind : ℕ) (f : Option ℕ) → token_in sc kind (number_at f brought) (packet_endpoint_at f pid packet brought) ≡ rows_of (with_token_on s (place_at f x0 old pid packet w) sc kind owner pid b)
  unfolding opened
  token-is sc kind (Some i) = refl
  token-is sc kind None = new_is sc kind (device_for owner w)

  brought_alike : Alike w brought
  brought_alike = record { count = refl; devices = refl; device_count = refl; device = λ j. refl; address = λ j. refl }

  append-is : transaction_append pid packet brought ≡ rows_of (appending s x0 old pid packet b w)
  unfolding appending place_of opened
  append-is = by b.style
    where
      by : (t : Style) → (append_token t pid packet brought ▷ λ v. with_transaction (with_pid pid v.transaction) v) ≡ rows_of (appending_at t s x0 old pid packet b w)
      by Nothing = refl
      by (Simple first) = refl
      by (Split sc kind) =
          token-is sc kind (found pid packet brought) ∙ ap (λ (f : Option ℕ). rows_of (with_token_on s (place_at f x0 old pid packet w) sc kind owner pid b)) (same-found brought_alike pid packet)
      by (Token sc kind token) = refl

  -- what is decided for its endpoint
  update_of : (let m = appending s x0 old pid packet b w in m.begin.update ≡ update_for s pid m.begin.transaction m.entry)
  unfolding appending place_of
  update_of = by b.style
    where
      by : (t : Style) → (let m = appending_at t s x0 old pid packet b w in m.begin.update ≡ update_for s pid m.begin.transaction m.entry)
      by Nothing = refl
      by (Simple first) = refl
      by (Split sc kind) = refl
      by (Token sc kind token) = refl

follows : (s : Status) → GoesOn s → (pid : ℕ) (t : Transaction) (e : Endpoint) (v : World) → v.endpoints t.endpoint ≡ e
    → after s (with_transaction t v) ≡ act (update_for s pid t e) t.endpoint (with_transaction t v)
follows Continue continue pid t e v h =
    early-append-is (with_transaction t v) ∙ ap (λ (a : Endpoint). act (decide_early_append t a) t.endpoint (with_transaction t v)) h
follows Retry retry pid t e v h = refl
follows Done done pid t e v h = refl
follows Fail fail pid t e v h = refl
follows Ambiguous ambiguous pid t e v h = refl
follows New x'' pid t e v h = elim x'' [ ]
follows Invalid x3 pid t e v h = elim x3 [ ]

pub going-is : (s : Status) → GoesOn s → (id pid x0 : ℕ) (packet : List ℕ) (b : Transaction) (w : World) → b.endpoint ≡ x0
    → after s (transaction_append pid packet (with_transaction b w)) ≡ begun id (appending s x0 (w.endpoints x0) pid packet b w).begin w
unfolding begun
going-is s goes id pid x0 packet b w at =
    let m = appending s x0 (w.endpoints x0) pid packet b w in
    let t = m.begin.transaction in
    let v = opened id m.begin w in
    ap (after s) (append-is s id pid x0 packet b w)
    ∙ (follows s goes pid t m.entry v (append-settled s id pid x0 packet b w at).entry ∙ ap (λ (u : Update). act u t.endpoint (with_transaction t v)) (sym (update_of s id pid x0 packet b w)))
