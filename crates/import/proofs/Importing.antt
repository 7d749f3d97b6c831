-- The laws of an import's loop: what one round is, what holds before each, and how the round carries it on.
use Prim.Native.Nat.{ℕ, zero, suc, ◌+◌, ◌-◌, ◌≤◌, ◌<◌}
use native.Mathlib.Omega.{arith}
use mathlib.Core.Bool.{Bool, true, false, cond, true≢false, false≢true}
use mathlib.Core.List.{List, [], ◌∷◌}
use mathlib.Core.Path.{◌≡◌, refl, sym, ap, subst, ◌∙◌}
use lib.Dec.{eqb}
use lib.ListN.{length, take, drop}
use lib.Seq.{slice, take-nil, drop-nil}
use Rattle.std.specs.Prelude.{Result, Err, IfErr}
use Rattle.rows.specs.One.{one}
use Rattle.details.specs.declared.Device.{Device}
use Rattle.record.specs.declared.Decoder.{Decoder}
use Rattle.pcap.specs.Pcap.{head_of, next_at, answer_of}
use Rattle.pcap.specs.declared.Format.{Format}
use Rattle.pcap.specs.declared.HeadError.{HeadError}
use Rattle.pcap.specs.declared.Next.{Next}
use Rattle.pcap.specs.declared.Next.TheVariants.{Packet, Cut, Fraction, End}
use Rattle.trace.specs.declared.clock.Clock.{Clock}
use Rattle.call.specs.Outcome.{accepts}
use Rattle.call.specs.State.{Logs, state}
use Rattle.call.proofs.StateLaws.{SameSizes}
use Rattle.call.specs.declared.Called.{Called}
use Rattle.packet.specs.Call.{PacketCall}
use Rattle.step.specs.Block.{Stand, stand}
use Rattle.stream.specs.Led.{Fits, ran_by, Led, Runs}
use Rattle.stream.specs.Led.Led.{none, more}
use Rattle.stream.specs.Piece.{piece_of, Timed}
use Rattle.stream.specs.Rounds.{none_yet, gone_on, halted, with_step, with_round}
use Rattle.stream.specs.declared.Run.{Run}
use Rattle.stream.specs.declared.part.Reader.TheVariants.{Pcap}
use Rattle.stream.specs.declared.piece.Piece.{Piece}
use Rattle.stream.proofs.Pieces.{timed_inside}
use Rattle.stream.proofs.Staying.{packet-stays, stays_fit, eight_small}
use Rattle.import.specs.Import.{Gives, behind, Imports, Unread, Opened, ImportsFile}
use Rattle.import.specs.Import.Imports.{done, stops, goes}
use Rattle.import.proofs.PieceLaws.{counted}
use Rattle.import.specs.Steps.{stopped_at, called_by, imported_of, Leads, Rounds, unread}
use Rattle.import.specs.declared.Imported.{Imported}

-- ---- one record

-- as the code takes a part of the file
part_slice : (from to : ℕ) (l : List ℕ) → take (to - from) (drop from l) ≡ slice from to l
part_slice zero to l = let e : to - 0 ≡ to = omega arith in ap (λ (n : ℕ). take n l) e
part_slice (suc from) zero l = let e : 0 - suc from ≡ 0 = omega arith in ap (λ (n : ℕ). take n (drop (suc from) l)) e ∙ sym (drop-nil (suc from))
part_slice (suc from) (suc to) [] = ap (take (suc to - suc from)) (drop-nil (suc from)) ∙ take-nil (suc to - suc from)
part_slice (suc from) (suc to) (x ∷ l) = let e : suc to - suc from ≡ to - from = omega arith in ap (λ (n : ℕ). take n (drop from l)) e ∙ part_slice from to l

-- no packet: the end, or a record that is refused
none_by : (f : Format) (t : List ℕ) (at : ℕ) (s : Stand) (n : Next) → next_at f t at ≡ n → IfErr (piece_of f n) (λ a. Imports f t at s 0 0 a at s)
none_by f t at s (Packet seconds fraction start end) e = tt
none_by f t at s Cut e = stops (subst (λ (m : Next). Gives f t m s (answer_of Cut) s) (sym e) (refl, refl)) refl
none_by f t at s Fraction e = stops (subst (λ (m : Next). Gives f t m s (answer_of Fraction) s) (sym e) (refl, refl)) refl
none_by f t at s End e = done e

-- as the code tells it
none_is : (f : Format) (t : List ℕ) (at : ℕ) (s : Stand) {n : Next} {a : ℕ} → n ≡ next_at f t at → Err a ≡ piece_of f n → Imports f t at s 0 0 a at s
none_is f t at s {n} k e = subst (λ (r : Result Piece ℕ). IfErr r (λ a. Imports f t at s 0 0 a at s)) (sym e) (none_by f t at s n (sym k))

-- a packet, called
module _ {f : Format} {t : List ℕ} {at time start end a : ℕ} {s s' : Stand} (k : Timed f t at time start end)
    (x : PacketCall (take (end - start) (drop start t)) time s.state s.shelf a s'.state s'.shelf) where
  gives : Gives f t (next_at f t at) s a s'
  gives =
      subst (λ (m : Next). Gives f t m s a s') (sym k.found)
      (subst (λ (i : ℕ). PacketCall (slice start end t) i s.state s.shelf a s'.state s'.shelf) k.told
      (subst (λ (b : List ℕ). PacketCall b time s.state s.shelf a s'.state s'.shelf) (part_slice start end t) x))

  further : (at < end) × (end ≤ length t)
  further =
      let i = timed_inside k in
      (omega (arith, i.first, i.part), i.stays)

  leads_one : accepts a ≡ true → Leads f t at s 1 (one (eqb a 8)) end s'
  leads_one e =
      let z : behind (next_at f t at) at ≡ end = ap (λ (m : Next). behind m at) k.found in
      let i = further in
      record {
        few = omega (arith, i.0);
        eights = eight_small a refl;
        fits = stays_fit (packet-stays (take (end - start) (drop start t)) time s.state s.shelf a s'.state s'.shelf x e);
        rest = λ {m} {g = j} {a = b} {p = q} {s''} y. counted (omega arith) refl
            (goes a gives e (subst (λ (u : ℕ). Imports f t u s' m j b q s'') (sym z) y));
      }

-- ---- records that lead on

leads-start : (f : Format) (t : List ℕ) (at : ℕ) (s : Stand) → Leads f t at s 0 0 at s
leads-start f t at s = record { few = omega arith; eights = omega arith; fits = λ b h. h; rest = λ x. counted (omega arith) (omega arith) x }

leads-then : {f : Format} {t : List ℕ} {at at' at'' n m e g : ℕ} {s s' s'' : Stand} → Leads f t at s n e at' s' → Leads f t at' s' m g at'' s'' → Leads f t at s (n + m) (e + g) at'' s''
leads-then {n = n} {m = m} {e = e} {g = g} x y =
    record {
      few = omega (arith, x.few, y.few);
      eights = omega (arith, x.eights, y.eights);
      fits = λ b h. y.fits b (x.fits b h);
      rest = λ z. counted (omega arith) (omega arith) (x.rest (y.rest z));
    }

-- the import is over where they lead to
leads-over : {f : Format} {t : List ℕ} {at at' n e a p : ℕ} {s s' s'' : Stand} → Leads f t at s n e at' s' → Imports f t at' s' 0 0 a p s'' → Imports f t at s n e a p s''
leads-over x z = counted (omega arith) (omega arith) (x.rest z)

-- packets by the inner call
led_leads : {f : Format} {t : List ℕ} {at n e at' : ℕ} {c c' : Clock} {s s' : Stand} → Led (Pcap f) t at c s n e at' c' s' → Leads f t at s n e at' s'
led_leads {f} {t} {at} {s = s} none = leads-start f t at s
led_leads {f} {t} {s' = s''} (more {at' = m} {s' = s'} p a l x h) =
    leads-then (led_leads l) (subst (λ (i : ℕ). Leads f t m s' 1 (one (eqb a 8)) i s'') (sym x.finds.1) (leads_one x.finds.0 x.call h))

-- ---- one round

module _ {f : Format} {t : List ℕ} {at : ℕ} {c : Clock} {s : Stand} {r : Run} {table : List ℕ} {l : Logs} {h : List ℕ} (p : Runs (Pcap f) t at c s r table l h) where
  -- a packet was refused
  pub round_stops : r.going ≡ false → Rounds f t at s r table l h
  round_stops e =
      record {
        leads = λ g. absurd (true≢false (sym g ∙ e));
        over = λ g. let o = p.over g in leads-over (led_leads p.led) (stops (gives o.calls.finds.0 o.calls.call) o.refused);
        counted = p.counted;
        further = λ g. absurd (true≢false (sym g ∙ e));
      }

  -- no packet stands behind them
  pub round-ends : {n : Next} {a : ℕ} {u : Run} → n ≡ next_at f t r.place → Err a ≡ piece_of f n → u ≡ stopped_at r a → Rounds f t at s u table l h
  round-ends k e w =
      subst (λ (u : Run). Rounds f t at s u table l h) (sym w)
      (record {
        leads = λ g. absurd (false≢true g);
        over = λ g. leads-over (led_leads p.led) (none_is f t r.place (ran_by r table l h) k e);
        counted = p.counted;
        further = λ g. absurd (false≢true g);
      })

  -- the packet behind them, by its public call
  module _ {time start end : ℕ} (k : Timed f t r.place time start end) {y : Called} {table' : List ℕ} {l' : Logs} {h' : List ℕ}
      (x : PacketCall (take (end - start) (drop start t)) time (ran_by r table l h).state h y.answer (state y.decoder y.devices table' l') h') where
    called : (b : Bool) → accepts y.answer ≡ b → Rounds f t at s (cond b (gone_on r (called_by r end y)) (halted r (called_by r end y))) table' l' h'
    called true e =
        let o = leads-then (led_leads p.led) (leads_one k x e) in
        let i = further k x in
        record {
          leads = λ g. o;
          over = λ g. absurd (true≢false g);
          counted = (o.few, o.eights);
          further = λ g. (omega (arith, p.counted.0, i.0), i.1);
        }
    called false e =
        record {
          leads = λ g. absurd (false≢true g);
          over = λ g. leads-over (led_leads p.led) (stops (gives k x) e);
          counted = p.counted;
          further = λ g. absurd (false≢true g);
        }

    -- the counts go no further than the bytes
    pub round_few : (r.taken + 1 ≤ length t) × (r.eights + 1 ≤ length t)
    round_few =
        let i = further k x in
        (omega (arith, p.counted.0, i.0, i.1), omega (arith, p.counted.0, p.counted.1, i.0, i.1))

    pub round_goes : {u : Run} → u ≡ with_step r (called_by r end y) → Rounds f t at s u table' l' h'
    round_goes v = subst (λ (u : Run). Rounds f t at s u table' l' h') (sym v) (called (accepts y.answer) refl)

-- ---- the rounds

pub record Importing (f : Format) (b : Bool) (t : List ℕ) (at : ℕ) (s : Stand) (r : Run) (table : List ℕ) (l : Logs) (h : List ℕ) : Type 0 where
  pub leads : Leads f t at s r.taken r.eights r.place (ran_by r table l h)
  pub sizes : SameSizes s.state.logs l
  pub fits : Fits b (ran_by r table l h).state

-- before the first round
module _ {f : Format} {t : List ℕ} {at : ℕ} {c : Clock} {d : Decoder} {v : List Device} {r : Run} (e : r ≡ none_yet d v c at) (table : List ℕ) (l : Logs) (h : List ℕ) where
  pub importing-start : {b : Bool} → Fits b (state d v table l) → Importing f b t r.place (ran_by r table l h) r table l h
  importing-start {b} g =
      subst (λ (u : Run). Importing f b t u.place (ran_by u table l h) u table l h) (sym e)
      (record { leads = leads-start f t at (stand (state d v table l) h); sizes = λ k u. refl; fits = g })

  -- what is said of a file from the first place on
  pub imports-from : {n k a p : ℕ} {s' : Stand} → Imports f t r.place (ran_by r table l h) n k a p s' → Imports f t at (stand (state d v table l) h) n k a p s'
  imports-from {n} {k} {a} {p} {s'} x = subst (λ (u : Run). Imports f t u.place (ran_by u table l h) n k a p s') e x

module _ {f : Format} {b : Bool} {t : List ℕ} {at : ℕ} {s : Stand} {r : Run} {table : List ℕ} {l : Logs} {h₁ : List ℕ} (g : Importing f b t at s r table l h₁) {m : Run} {table' : List ℕ} {l' : Logs} {h₂ : List ℕ} (x : Rounds f t r.place (ran_by r table l h₁) m table' l' h₂) where
  -- the counts stay below the place
  pub importing-counts : (r.taken + m.taken ≤ m.place) × (r.eights + m.eights ≤ m.place)
  importing-counts =
      let k = x.counted in
      (omega (arith, g.leads.few, k.0), omega (arith, g.leads.few, g.leads.eights, k.0, k.1))

  module _ {u : Run} (v : u ≡ with_round r m) where
    -- a record was refused, or there is none
    pub importing_stops : u.going ≡ false → {y : Imported} → y ≡ imported_of u → Imports f t at s y.taken y.eights y.answer y.place (stand (state y.decoder y.devices table' l') h₂)
    importing_stops e w =
        subst (λ (y : Imported). Imports f t at s y.taken y.eights y.answer y.place (stand (state y.decoder y.devices table' l') h₂)) (sym w)
        (subst (λ (u : Run). u.going ≡ false → Imports f t at s u.taken u.eights u.answer u.place (ran_by u table' l' h₂)) (sym v) (λ k. g.leads.rest (x.over k)) e)

    module _ (e : u.going ≡ true) where
      pub importing_further : (r.place < u.place) × (u.place ≤ length t)
      importing_further = subst (λ (u : Run). u.going ≡ true → (r.place < u.place) × (u.place ≤ length t)) (sym v) x.further e

      pub importing-more : SameSizes l l' → Importing f b t at s u table' l' h₂
      importing-more z =
          subst (λ (u : Run). u.going ≡ true → Importing f b t at s u table' l' h₂) (sym v)
          (λ k. let o = x.leads k in record { leads = leads-then g.leads o; sizes = λ j w. z j w ∙ g.sizes j w; fits = o.fits b g.fits })
          e

-- ---- a whole file

-- by what was found at its head
pub opened_by : (t : List ℕ) (s : Stand) {h : Result Format HeadError} (m : Result Format HeadError) → h ≡ head_of t → h ≡ m → (n k a p : ℕ) (s' : Stand) → Opened t m s n k a p s' → ImportsFile t s n k a p s'
opened_by t s m e q n k a p s' x = subst (λ (z : Result Format HeadError). Opened t z s n k a p s') (sym q ∙ e) x

-- a head that is refused
pub unread_by : (m : Result Format HeadError) (d : Decoder) (v : List Device) (table : List ℕ) (l : Logs) (g : List ℕ) {h : Result Format HeadError} {r : Imported} → h ≡ m → r ≡ unread h d v
    → Unread m (stand (state d v table l) g) r.taken r.eights r.answer r.place (stand (state r.decoder r.devices table l) g)
unread_by m d v table l g q w =
    subst (λ (r : Imported). Unread m (stand (state d v table l) g) r.taken r.eights r.answer r.place (stand (state r.decoder r.devices table l) g)) (sym (w ∙ ap (λ (z : Result Format HeadError). unread z d v) q))
    (record { taken = refl; eights = refl; answer = refl; place = refl; left = refl })
