-- A request that completes: it stores the same on both shelves, so they agree on the entries that its device keeps then.
use Prim.Native.Nat.{ℕ, zero, suc, ◌+◌, ◌-◌, ◌*◌, ◌≤◌, ◌<◌, min}
use native.Mathlib.Nat.{le_refl}
use native.Mathlib.Omega.{arith}
use Rattle.std.specs.Prelude.{Option, Some, None, is_some}
use Rattle.std.specs.Option.{option_map_or}
use mathlib.Core.Path.{◌≡◌, refl, sym, ap, subst, ◌∙◌}
use mathlib.Core.Bool.{Bool, true, false, cond}
use mathlib.Core.List.{List, [], ◌∷◌}
use borrow.Author.Tests.{eqb-true, leb-true, leb-false}
use lib.Dec.{eqb, leb}
use lib.ListN.{length, take, drop}
use lib.Seq.{sets, length-sets}
use Rattle.transaction.specs.Table.{pick}
use Rattle.details.specs.declared.Device.{Device}
use Rattle.descriptors.specs.Complete.{payload_for, entries_for, count_after, shelf_after, row_after, shelf_by}
use Rattle.descriptors.proofs.Configuration.{All}
use Rattle.descriptors.specs.Entries.{value_of, entries_of}
use Rattle.descriptors.proofs.HeldLaws.{Seven, joined_length, chunks_seven, without_seven, entries_seven, fitting_seven}
use Rattle.descriptors.specs.Kind.{kind_of}
use Rattle.descriptors.specs.Laid.{is_laid}
use Rattle.descriptors.proofs.ReadBack.{all_append}
use Rattle.descriptors.specs.Store.{chunks, without, left_by, added_by, kept_after}
use Rattle.descriptors.specs.Whole.{joined}
use Rattle.descriptors.specs.declared.complete.Asked.{Asked}
use Rattle.descriptors.specs.declared.request.Kind.{Kind}
use Rattle.descriptors.specs.declared.request.Kind.TheVariants.{DeviceRead, ConfigurationRead, SetConfiguration, SetInterface, Other}
use Rattle.rules.specs.World.{World}
use Rattle.rules.specs.Groups.{asked_of, decode_request}
use Rattle.demands.specs.Shelf.{Agree}
use Rattle.demands.proofs.Alike.{Asks, fewer, sets-agree, shelf_same}
use Rattle.unread.proofs.Kin.{Still, view}
use Rattle.unread.proofs.Stores.{sets_more, whole_agree}

kept_seven : (p : List ℕ) (es : List (List ℕ)) → All Seven es → All Seven (kept_after p es)
unfolding left_by added_by
kept_seven p es s = all_append Seven (left_by p es) (added_by p es) (by (value_of p)) (fitting_seven (length (left_by p es)) (entries_of p) (entries_seven p))
  where
    by : (r : Option ℕ) → All Seven (option_map_or (λ v. without v es) r es)
    by (Some v) = without_seven v es s
    by None = s

-- what is stored, by the payload and the entries that were read
module _ (start : ℕ) (p : List ℕ) (es : List (List ℕ)) (h g : List ℕ) (l : length h ≡ length g) where
  stored-agree : (b : Bool) (vs : List ℕ) (i at n : ℕ) → Agree at n h g → Agree at n (cond b (sets h i vs) h) (cond b (sets g i vs) g)
  stored-agree true vs i at n e = sets-agree vs h g i at n l e
  stored-agree false vs i at n e = e

  stored-long : (b : Bool) (vs : List ℕ) (i : ℕ) → length (cond b (sets h i vs) h) ≡ length (cond b (sets g i vs) g)
  stored-long true vs i = length-sets h i vs ∙ l ∙ sym (length-sets g i vs)
  stored-long false vs i = l

  after-agree : (k : Kind) (at n : ℕ) → Agree at n h g → Agree at n (shelf_after k start p es h) (shelf_after k start p es g)
  unfolding shelf_after
  after-agree DeviceRead at n e = e
  after-agree ConfigurationRead at n e = stored-agree (is_some (value_of p)) (joined (kept_after p es)) (start + 4096) at n e
  after-agree SetConfiguration at n e = e
  after-agree SetInterface at n e = e
  after-agree Other at n e = e

  after-long : (k : Kind) → length (shelf_after k start p es h) ≡ length (shelf_after k start p es g)
  unfolding shelf_after
  after-long DeviceRead = l
  after-long ConfigurationRead = stored-long (is_some (value_of p)) (joined (kept_after p es)) (start + 4096)
  after-long SetConfiguration = l
  after-long SetInterface = l
  after-long Other = l

  -- the entries that are kept then: as many bytes were stored, or the shelves agree up to their ends
  module _ (kept : ℕ) (read : es ≡ chunks (min kept 585) (drop (start + 4096) h)) (e : Agree (start + 4096) (min kept 585 * 7) h g) where
    read_more : (b : Bool)
        → Agree (start + 4096) (min (cond b (length (kept_after p es)) kept) 585 * 7) (cond b (sets h (start + 4096) (joined (kept_after p es))) h) (cond b (sets g (start + 4096) (joined (kept_after p es))) g)
    read_more false = e
    read_more true = by (leb (min kept 585 * 7) (length (drop (start + 4096) h))) refl
      where
        base : ℕ
        base = start + 4096

        vs : List ℕ
        vs = joined (kept_after p es)

        n : ℕ
        n = length (kept_after p es)

        by : (c : Bool) → leb (min kept 585 * 7) (length (drop base h)) ≡ c → Agree base (min n 585 * 7) (sets h base vs) (sets g base vs)
        by true q =
            let s : All Seven es = subst (All Seven) (sym read) (chunks_seven (min kept 585) (drop base h) (leb-true (min kept 585 * 7) (length (drop base h)) q)) in
            let m = joined_length (kept_after p es) (kept_seven p es s) in
            let z : base ≡ base + 0 = omega arith in
            fewer base (min n 585 * 7) (0 + length vs) (sets h base vs) (sets g base vs) (omega arith) (sets_more vs h g base base 0 z l refl)
        by false q =
            let m = leb-false (min kept 585 * 7) (length (drop base h)) q in
            sets-agree vs h g base base (min n 585 * 7) l (whole_agree base (min kept 585 * 7) (min n 585 * 7) h g l (omega arith) e)

    after_more : (k : Kind) → Agree (start + 4096) (min (count_after k p es kept) 585 * 7) (shelf_after k start p es h) (shelf_after k start p es g)
    unfolding shelf_after count_after
    after_more DeviceRead = e
    after_more ConfigurationRead = read_more (is_some (value_of p))
    after_more SetConfiguration = e
    after_more SetInterface = e
    after_more Other = e

-- ---- on a world

module _ (n x : ℕ) (w : World) (g : List ℕ) (s : Still w.shelf g (view w))
    (bytes : is_laid (kind_of (w.endpoints x).setup) ≡ true → Agree ((w.endpoints x).device * 8192) (min n 4096) w.shelf g) where
  abbrev d : ℕ
  d = (w.endpoints x).device

  abbrev a : Asked
  a = asked_of n x w

  abbrev h : List ℕ
  h = w.shelf

  pub request-asks : Asks a h g
  request-asks = record { payload = bytes; entries = s.entries d (s.owner x) }

  abbrev after : List ℕ → List ℕ
  after z = shelf_after (kind_of a.setup) (d * 8192) (payload_for a h) (entries_for a h) z

  request_still-after : Still (after h) (after g) (view (decode_request n x w))
  unfolding row_after
  request_still-after =
      let k = kind_of a.setup in
      let p = payload_for a h in
      let es = entries_for a h in
      let l = s.long in
      record {
        long = after-long (d * 8192) p es h g l k;
        three = s.three;
        event = s.event;
        owner = s.owner;
        entries = λ i r. by i (eqb i d) refl r;
        payload = λ y r. after-agree (d * 8192) p es h g l k ((w.endpoints y).device * 8192) (min (w.endpoints y).payload 4096) (s.payload y r);
        waits = s.waits;
      }
    where
      by : (i : ℕ) (b : Bool) → eqb i d ≡ b → i < w.device_count
          → Agree (i * 8192 + 4096) (min (pick b (row_after (kind_of a.setup) a h (w.devices i)) (w.devices i)).kept 585 * 7) (after h) (after g)
      by i true q r =
          subst (λ (j : ℕ). Agree (j * 8192 + 4096) (min (count_after (kind_of a.setup) (payload_for a h) (entries_for a h) a.kept) 585 * 7) (after h) (after g)) (sym (eqb-true i d q))
          (after_more (d * 8192) (payload_for a h) (entries_for a h) h g s.long a.kept refl (s.entries d (s.owner x)) (kind_of a.setup))
      by i false q r = after-agree (d * 8192) (payload_for a h) (entries_for a h) h g s.long (kind_of a.setup) (i * 8192 + 4096) (min (w.devices i).kept 585 * 7) (s.entries i r)

  pub request_still : Still (shelf_by a h) (shelf_by a g) (view (decode_request n x w))
  request_still = subst (λ (z : List ℕ). Still (after h) z (view (decode_request n x w))) (sym (shelf_same a h g request-asks)) request_still-after
