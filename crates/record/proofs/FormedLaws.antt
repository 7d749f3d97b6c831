-- Laws (proved): what a well-formed record tells, clause by clause, and what makes one: `well` and `well-formed`, and the like for an endpoint and for
-- the transaction that is held.
use Rattle.std.specs.Prelude.{ℕ, ◌<◌, ◌≤◌, ◌≡◌, refl, Bool, true, false, not, ◌&&◌, ◌||◌, ◌⊎◌, List, eqb, ltb, get_or}
use Rattle.std.proofs.Common.{arith, inl, inr, ltb-true, lt-ltb, leb-true, le-leb, eqb-true, eq-eqb, ne_eqb}
use Rattle.std.proofs.lemmas.Bool.{false≢true, eqb-false}
use Rattle.transaction.specs.declared.Transaction.{Transaction}
use Rattle.endpoints.specs.Phases.{waiting}
use Rattle.details.specs.Search.{blank}
use Rattle.endpoints.specs.Table.{entry_at}
use Rattle.details.specs.declared.Device.{Device}
use Rattle.endpoints.specs.declared.Endpoint.{Endpoint}
use Rattle.endpoints.specs.declared.Phase.{Phase}
use Rattle.endpoints.specs.declared.Phase.TheVariants.{None, Early, Active, Ended}
use Rattle.rules.specs.World.{no_item}
use Rattle.record.specs.Bools.{both, and, implied, imply, either_true, or_left, or_right, every_at, every_true}
use Rattle.record.specs.Formed.{standing, words_stored, entry_formed, endpoint_formed, held_style, may_lack, held_formed, holds, special, specials_stand, last_names, well_formed, Stored}
use Rattle.record.specs.Room.{held_of}
use Rattle.record.specs.RoomLaws.{Within, Begun, Numbered, roomy-is, is-roomy}
use Rattle.record.specs.declared.Counts.{Counts}
use Rattle.record.specs.declared.Decoder.{Decoder}

-- ---- an endpoint

pub record EntryFormed (n : Counts) (e : Endpoint) : Type 0 where
  pub transactions : e.transactions ≤ n.links
  pub groups : e.groups ≤ n.links
  pub device : e.device < n.devices
  pub pendinglink : e.pending ≡ true → e.pendinglink < e.transactions
  pub payload : e.payload ≤ n.bytes
  pub pendinglength : e.pending ≡ true → e.pendinglength ≤ n.bytes
  pub group : standing e.phase ≡ true → 0 < e.groups

pub entry : (n : Counts) (e : Endpoint) → entry_formed n e ≡ true → EntryFormed n e
unfolding entry_formed
entry n e h =
    let h3 = both _ _ h in
    let h2 = both _ _ h3.0 in
    let h1 = both _ _ h2.0 in
    let fits = both _ _ h1.0 in
    let names = both _ _ h1.1 in
    let payloads = both _ _ h2.1 in
    record {
      transactions = leb-true _ _ fits.0;
      groups = leb-true _ _ fits.1;
      device = ltb-true _ _ names.0;
      pendinglink = λ w. ltb-true _ _ (implied _ _ names.1 w);
      payload = leb-true _ _ payloads.0;
      pendinglength = λ w. leb-true _ _ (implied _ _ payloads.1 w);
      group = λ w. ltb-true _ _ (implied _ _ h3.1 w);
    }

pub entry-formed : (n : Counts) (e : Endpoint) → EntryFormed n e → entry_formed n e ≡ true
unfolding entry_formed
entry-formed n e f =
    and _ _
    (and _ _
    (and _ _
    (and _ _ (le-leb _ _ f.transactions) (le-leb _ _ f.groups))
    (and _ _ (lt-ltb _ _ f.device) (imply _ _ (λ w. lt-ltb _ _ (f.pendinglink w)))))
    (and _ _ (le-leb _ _ f.payload) (imply _ _ (λ w. le-leb _ _ (f.pendinglength w)))))
    (imply _ _ (λ w. lt-ltb _ _ (f.group w)))

-- ---- its words

pub stored : (table : List ℕ) (i : ℕ) → words_stored table i ≡ true → Stored table i
stored table i h =
    let h8 = both _ _ h in
    let h7 = both _ _ h8.0 in
    let h6 = both _ _ h7.0 in
    let h5 = both _ _ h6.0 in
    let h4 = both _ _ h5.0 in
    let h3 = both _ _ h4.0 in
    let h2 = both _ _ h3.0 in
    let h1 = both _ _ h2.0 in
    record {
      address = ltb-true _ _ h1.0;
      phase = leb-true _ _ h1.1;
      state = ltb-true _ _ h2.1;
      first = ltb-true _ _ h3.1;
      done = ltb-true _ _ h4.1;
      last = ltb-true _ _ h5.1;
      success = ltb-true _ _ h6.1;
      ready = ltb-true _ _ h7.1;
      pending = ltb-true _ _ h8.1;
    }

pub words-stored : (table : List ℕ) (i : ℕ) → Stored table i → words_stored table i ≡ true
words-stored table i s =
    and _ _
    (and _ _
    (and _ _
    (and _ _
    (and _ _
    (and _ _
    (and _ _
    (and _ _ (lt-ltb _ _ s.address) (le-leb _ _ s.phase))
    (lt-ltb _ _ s.state))
    (lt-ltb _ _ s.first))
    (lt-ltb _ _ s.done))
    (lt-ltb _ _ s.last))
    (lt-ltb _ _ s.success))
    (lt-ltb _ _ s.ready))
    (lt-ltb _ _ s.pending)

-- ---- both

pub record EndpointFormed (n : Counts) (table : List ℕ) (i : ℕ) : Type 0 where
  pub entry : EntryFormed n (entry_at table i)
  pub words : Stored table i

pub endpoint : (n : Counts) (table : List ℕ) (i : ℕ) → endpoint_formed n table i ≡ true → EndpointFormed n table i
unfolding endpoint_formed
endpoint n table i h =
    let g = both (entry_formed n (entry_at table i)) (words_stored table i) h in
    record { entry = entry n (entry_at table i) g.0; words = stored table i g.1 }

pub endpoint-formed : (n : Counts) (table : List ℕ) (i : ℕ) → EndpointFormed n table i → endpoint_formed n table i ≡ true
unfolding endpoint_formed
endpoint-formed n table i f = and _ _ (entry-formed n (entry_at table i) f.entry) (words-stored table i f.words)

-- ---- the transaction that is held

pub record HeldFormed (n : Counts) (t : Transaction) (e : Endpoint) : Type 0 where
  pub endpoint : t.endpoint < n.endpoints
  pub id : t.id < n.transactions
  pub link : t.linked ≡ true → (0 < t.endpoint) × (t.link < e.transactions)
  pub payload : t.filled ≡ true → t.payload ≤ n.bytes
  pub style : held_style t.style t.endpoint ≡ true
  pub lacks : 0 < t.endpoint → t.linked ≡ false → may_lack e.phase e.first ≡ true

pub held : (n : Counts) (t : Transaction) (e : Endpoint) → held_formed n t e ≡ true → HeldFormed n t e
unfolding held_formed
held n t e h =
    let h3 = both _ _ h in
    let h2 = both _ _ h3.0 in
    let h1 = both _ _ h2.0 in
    let names = both _ _ h1.0 in
    let rows = both _ _ names.0 in
    record {
      endpoint = ltb-true _ _ rows.0;
      id = ltb-true _ _ rows.1;
      link = λ w. let g = both _ _ (implied _ _ names.1 w) in (ltb-true _ _ g.0, ltb-true _ _ g.1);
      payload = λ w. leb-true _ _ (implied _ _ h1.1 w);
      style = h2.1;
      lacks = λ u v. let z = ne_eqb t.endpoint 0 (λ q. omega arith) in rw (z, v) at h3.1;
    }

pub held-formed : (n : Counts) (t : Transaction) (e : Endpoint) → HeldFormed n t e → held_formed n t e ≡ true
unfolding held_formed
held-formed n t e f =
    and _ _
    (and _ _
    (and _ _
    (and _ _
    (and _ _ (lt-ltb _ _ f.endpoint) (lt-ltb _ _ f.id))
    (imply _ _ (λ w. and _ _ (lt-ltb _ _ (f.link w).0) (lt-ltb _ _ (f.link w).1))))
    (imply _ _ (λ w. le-leb _ _ (f.payload w))))
    f.style)
    (pick (eqb t.endpoint 0) refl t.linked refl)
  where
    pick : (a : Bool) → eqb t.endpoint 0 ≡ a → (b : Bool) → t.linked ≡ b → (a || b || may_lack e.phase e.first) ≡ true
    pick true p b q = refl
    pick false p true q = refl
    pick false p false q = let z = eqb-false t.endpoint 0 p in f.lacks (omega arith) q

-- ---- the record

pub record Special (e : Endpoint) (number : ℕ) : Type 0 where
  pub device : e.device ≡ 0
  pub address : e.address ≡ number

special-is : (e : Endpoint) (number : ℕ) → special e number ≡ true → Special e number
special-is e number h = let g = both _ _ h in record { device = eqb-true _ _ g.0; address = eqb-true _ _ g.1 }

is_special : (e : Endpoint) (number : ℕ) → Special e number → special e number ≡ true
is_special e number s = and _ _ (eq-eqb _ _ s.device) (eq-eqb _ _ s.address)

pub record SpecialsStand (n : Counts) (devices : List Device) (table : List ℕ) : Type 0 where
  pub some : 0 < n.devices
  pub address : (get_or devices 0 blank).address ≡ 0
  pub three : 3 ≤ n.endpoints
  pub event : Special (entry_at table 0) 0x10
  pub invalid : Special (entry_at table 1) 0x11
  pub framing : Special (entry_at table 2) 0x12

pub specials : (n : Counts) (devices : List Device) (table : List ℕ) → specials_stand n devices table ≡ true → SpecialsStand n devices table
unfolding specials_stand
specials n devices table h =
    let h5 = both _ _ h in
    let h4 = both _ _ h5.0 in
    let h3 = both _ _ h4.0 in
    let h2 = both _ _ h3.0 in
    let h1 = both _ _ h2.0 in
    record {
      some = ltb-true _ _ h1.0;
      address = eqb-true _ _ h1.1;
      three = leb-true _ _ h2.1;
      event = special-is _ _ h3.1;
      invalid = special-is _ _ h4.1;
      framing = special-is _ _ h5.1;
    }

pub specials-stand : (n : Counts) (devices : List Device) (table : List ℕ) → SpecialsStand n devices table → specials_stand n devices table ≡ true
unfolding specials_stand
specials-stand n devices table s =
    and _ _
    (and _ _
    (and _ _
    (and _ _
    (and _ _ (lt-ltb _ _ s.some) (eq-eqb _ _ s.address))
    (le-leb _ _ s.three))
    (is_special _ _ s.event))
    (is_special _ _ s.invalid))
    (is_special _ _ s.framing)

pub resting : (p : Phase) → not (standing p) ≡ true → p ≡ None
resting None h = refl
resting Early h = absurd (false≢true h)
resting Active h = absurd (false≢true h)
resting Ended h = absurd (false≢true h)

pub record WellFormed (d : Decoder) (devices : List Device) (table : List ℕ) (room : Counts) : Type 0 where
  pub begun : Begun table d.counts
  pub counts : Within (held_of table d.counts) room
  pub numbered : Numbered d.counts
  pub specials : SpecialsStand d.counts devices table
  pub rests : (entry_at table 0).phase ≡ None
  pub endpoints : (i : ℕ) → i < d.counts.endpoints → EndpointFormed d.counts table i
  pub held : holds d.slot ≡ true → HeldFormed d.counts d.transaction (entry_at table d.transaction.endpoint)
  pub last : (d.last ≡ no_item) ⊎ ((d.last < d.counts.endpoints) × (0 < d.counts.items))
  pub waiting : d.waiting ≡ waiting table d.counts.endpoints

pub well : (d : Decoder) (devices : List Device) (table : List ℕ) (room : Counts) → well_formed d devices table room ≡ true → WellFormed d devices table room
unfolding well_formed
well d devices table room h =
    let h6 = both _ _ h in
    let h5 = both _ _ h6.0 in
    let h4 = both _ _ h5.0 in
    let h3 = both _ _ h4.0 in
    let h2 = both _ _ h3.0 in
    let h1 = both _ _ h2.0 in
    let r = roomy-is table d.counts room h1.0 in
    record {
      begun = r.begun;
      counts = r.held;
      numbered = r.numbered;
      specials = specials _ _ _ h1.1;
      rests = resting _ h2.1;
      endpoints = λ i v. endpoint d.counts table i (every_at (endpoint_formed d.counts table) d.counts.endpoints 0 i h3.1 (omega arith) (omega arith));
      held = λ w. held _ _ _ (implied _ _ h4.1 w);
      last = names (either_true _ _ h5.1);
      waiting = eqb-true _ _ h6.1;
    }
  where
    names : (eqb d.last no_item ≡ true) ⊎ ((ltb d.last d.counts.endpoints && ltb 0 d.counts.items) ≡ true)
        → (d.last ≡ no_item) ⊎ ((d.last < d.counts.endpoints) × (0 < d.counts.items))
    names (inl g) = inl (eqb-true _ _ g)
    names (inr g) = let k = both _ _ g in inr (ltb-true _ _ k.0, ltb-true _ _ k.1)

pub well-formed : (d : Decoder) (devices : List Device) (table : List ℕ) (room : Counts) → WellFormed d devices table room → well_formed d devices table room ≡ true
unfolding well_formed
well-formed d devices table room w =
    let rests = w.rests in
    and _ _
    (and _ _
    (and _ _
    (and _ _
    (and _ _
    (and _ _ (is-roomy _ _ _ (record { begun = w.begun; held = w.counts; numbered = w.numbered })) (specials-stand _ _ _ w.specials))
    (rw rests))
    (every_true (endpoint_formed d.counts table) d.counts.endpoints 0 (λ i u v. endpoint-formed d.counts table i (w.endpoints i (omega arith)))))
    (imply _ _ (λ g. held-formed _ _ _ (w.held g))))
    (names w.last))
    (eq-eqb _ _ w.waiting)
  where
    names : (d.last ≡ no_item) ⊎ ((d.last < d.counts.endpoints) × (0 < d.counts.items)) → last_names d.counts d.last ≡ true
    names (inl g) = or_left _ _ (eq-eqb _ _ g)
    names (inr g) = or_right (eqb d.last no_item) _ (and _ _ (lt-ltb _ _ g.0) (lt-ltb _ _ g.1))
