-- To be believed: the state row (add_endpoint_state of decoder.rs): what each endpoint's state becomes.
-- Hold it to: add_endpoint_state of decoder.rs
use Rattle.std.specs.Prelude.{ℕ, Bool, cond, eqb}
use Rattle.endpoints.specs.Word as word

-- Starting and Ongoing go on, as `on` says; Ending and Idle are over
abbrev pub goes_on : ℕ → ℕ → ℕ
goes_on on last = cond (eqb last word.Starting) on (cond (eqb last word.Ongoing) on word.Idle)

-- the state after a row: of the row's own endpoint; of another where the row is the event endpoint's; of another
abbrev pub next_state : Bool → Bool → Bool → ℕ → ℕ
next_state same event start last = cond same (cond start word.Starting word.Ending) (goes_on (cond event word.Ending word.Ongoing) last)
