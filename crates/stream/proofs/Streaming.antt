-- The laws of the loop over packets: what holds before each of them, that it lets packet_in be called, and how one packet more carries it on.
use Prim.Native.Nat.{ℕ, ◌+◌, ◌-◌, ◌<◌, ◌≤◌}
use native.Mathlib.Omega.{arith}
use mathlib.Core.Bool.{Bool, true, false, true≢false}
use mathlib.Core.List.{List}
use mathlib.Core.Path.{◌≡◌, refl, sym, ap, subst, ◌∙◌}
use lib.Dec.{eqb}
use lib.ListN.{length, get_or, take, drop, length-drop}
use lib.Seq.{length-take-le}
use Rattle.rows.specs.One.{one}
use Rattle.usb.specs.Fields.{token_of}
use Rattle.details.specs.Details.{details_of}
use Rattle.details.specs.Search.{blank}
use Rattle.details.specs.Lookup.{found_device}
use Rattle.details.specs.declared.Device.{Device}
use Rattle.std.specs.Prelude.{Option}
use Rattle.endpoints.specs.Table.{entry_at}
use Rattle.endpoints.specs.declared.Endpoint.{Endpoint}
use Rattle.plan.specs.Packet.{old_endpoint}
use Rattle.trace.specs.declared.clock.Clock.{Clock}
use Rattle.call.specs.Outcome.{is_ill, accepts}
use Rattle.call.proofs.OutcomeLaws.{sound}
use Rattle.call.specs.State.{State, state, room_of}
use Rattle.call.proofs.StateLaws.{SameSizes}
use Rattle.decide.specs.Near.{place_in, near_by}
use Rattle.decide.specs.Ready.{Ready, ready}
use Rattle.decide.specs.declared.near.Near.{Near}
use Rattle.decide.proofs.Bounds.{old-there}
use Rattle.decide.proofs.Places.{number_small, place_few, seen_by}
use Rattle.packet.specs.Call.{PacketCall}
use Rattle.packet.proofs.CallLaws.{packet-kept}
use Rattle.packet.specs.Lent.{Lent}
use Rattle.packet.proofs.Answers.{with_requests}
use Rattle.sound.proofs.Keeps.{kept}
use Rattle.stream.specs.Addresses.{Addressed, found_address, sight_of}
use Rattle.step.specs.Block.{Stand, stand}
use Rattle.stream.specs.Led.{Fits, bytes_of, Calls, Led, Refused, Runs}
use Rattle.stream.specs.Led.Led.{none, more}
use Rattle.stream.specs.Part.{clock_by}
use Rattle.stream.specs.declared.part.Part.{Part}
use Rattle.stream.specs.declared.part.Reader.{Reader}
use Rattle.stream.specs.declared.sight.Sight.{Sight}
use Rattle.stream.proofs.Addresses.{found_same}
use Rattle.stream.proofs.Finding.{Inside, finds_inside, IsPart}
use Rattle.stream.proofs.Staying.{eight_small, packet-stays, stays_fit}

-- ---- the loop's invariant

-- the packets so far lead from s₀ to s, whose state no packet finds ill or finished where the loop is ready, and a has the addresses of its devices
pub record Streaming (r : Reader) (b : Bool) (t : List ℕ) (at₀ : ℕ) (c₀ : Clock) (s₀ : Stand) (n e at : ℕ) (c : Clock) (s : Stand) (a : List ℕ) : Type 0 where
  pub led : Led r t at₀ c₀ s₀ n e at c s
  pub few : n + at₀ ≤ at
  pub eights : e ≤ n
  pub sizes : SameSizes s₀.state.logs s.state.logs
  pub fits : Fits b s.state
  pub many : length s.state.devices ≡ 64
  pub addressed : Addressed 64 a s.state.devices

pub streaming-start : {r : Reader} {b : Bool} (t : List ℕ) (at : ℕ) (c : Clock) {s : Stand} {a : List ℕ} → Fits b s.state → length s.state.devices ≡ 64 → Addressed 64 a s.state.devices → Streaming r b t at c s 0 0 at c s a
streaming-start t at c {s} f m d = record { led = none; few = omega arith; eights = omega arith; sizes = λ k u. refl; fits = f; many = m; addressed = d }

-- with other words for the 8 and the clock
more_by : {r : Reader} {t : List ℕ} {at n e at' a u : ℕ} {c c' c'' : Clock} {s s' s'' : Stand} (p : Part) → Led r t at c s n e at' c' s' → Calls r t at' c' s' p a s'' → accepts a ≡ true → u ≡ one (eqb a 8) → c'' ≡ clock_by p
    → Led r t at c s (n + 1) (e + u) p.next c'' s''
more_by {r} {t} {at} {n} {e} {at'} {a} {u} {c} {c'} {c''} {s} {s'} {s''} p l x h q k =
    subst (λ (v : Clock). Led r t at c s (n + 1) (e + u) p.next v s'') (sym k) (subst (λ (f : ℕ). Led r t at c s (n + 1) (e + f) p.next (clock_by p) s'') (sym q) (more p a l x h))

-- a record that the loop does not take
pub streaming-ends : {r : Reader} {b : Bool} {t a : List ℕ} {at₀ n e at : ℕ} {c₀ c : Clock} {s₀ s : Stand} → Streaming r b t at₀ c₀ s₀ n e at c s a
    → Runs r t at₀ c₀ s₀ (record { going = true; answer = 0; taken = n; eights = e; place = at; clock = c; decoder = s.state.decoder; devices = s.state.devices }) s.state.table s.state.logs s.shelf
streaming-ends g = record { led = g.led; over = λ z. absurd (true≢false z); counted = (g.few, g.eights) }

module _ {r : Reader} {b : Bool} {t a : List ℕ} {at₀ n e at : ℕ} {c₀ c : Clock} {s₀ s : Stand} {p : Part} (g : Streaming r b t at₀ c₀ s₀ n e at c s a) (k : IsPart r b t at c p) where
  pub streaming_unfinished : s.state.decoder.finished ≡ false
  streaming_unfinished = g.fits.unfinished k.ready

  well : is_ill s.state ≡ false
  well = kept.well s.state (g.fits.sound k.ready)

  pub streaming-ready : Ready s.state.decoder s.state.table
  streaming-ready = let w = sound s.state well in ready s.state.decoder s.state.devices s.state.table (room_of s.state.logs) w.0

  inside : Inside t at p
  inside = finds_inside r t at c p k.finds

  pub streaming_bounds : (p.start ≤ p.end) × (p.end ≤ length t)
  streaming_bounds = (inside.part, inside.ends)

  pub streaming_further : (at < p.next) × (p.next ≤ length t)
  streaming_further = (inside.grows, inside.stays)

  -- the counts stay below the place
  pub streaming-counts : (n + 1 ≤ length t) × (e + 1 ≤ length t)
  streaming-counts =
      let f = streaming_further in
      (omega (arith, g.few), omega (arith, g.few, g.eights))

  pub streaming-short : length (bytes_of t p) ≤ 4096
  streaming-short =
      let h = streaming_bounds in
      let e : length (bytes_of t p) ≡ p.end - p.start = length-take-le (p.end - p.start) _ (rw (length-drop) (omega arith)) in
      omega (arith, k.short)

  abbrev old : Endpoint
  old = entry_at s.state.table (old_endpoint s.state.decoder.slot s.state.decoder.transaction)

  -- what packet_in goes by, as the loop takes it
  module _ {q : Sight} (seen : q ≡ sight_of a s.state.decoder s.state.table (bytes_of t p)) where
    found-is : q.found ≡ found_device s.state.devices s.state.decoder.counts.devices (token_of (bytes_of t p)).address
    found-is = ap (λ (x : Sight). x.found) seen ∙ found_same g.addressed s.state.decoder.counts.devices _ streaming-ready.devices

    place_is : q.place ≡ place_in q.found
    place_is = ap (λ (x : Sight). x.place) seen ∙ ap place_in (sym (ap (λ (x : Sight). x.found) seen))

    pub streaming-place : q.place < 64
    streaming-place = subst (λ (i : ℕ). i < 64) (sym place_is) (place_few s.state.devices s.state.decoder.counts.devices _ q.found found-is streaming-ready.devices)

    pub streaming-owner : q.owner < 64
    streaming-owner =
        let r = streaming-ready in
        let k = r.entries _ (old-there s.state.decoder.transaction r.three s.state.decoder.slot r.held) in
        subst (λ (i : ℕ). i < 64) (sym (ap (λ (x : Sight). x.owner) seen)) (omega (arith, k.device, r.devices))

    pub streaming-number : q.number < 16
    streaming-number = subst (λ (i : ℕ). i < 16) (sym (ap (λ (x : Sight). x.number) seen)) (number_small (bytes_of t p) refl)

    pub streaming-lent : {near : Near} → near ≡ near_by q.found q.number (get_or s.state.devices q.place blank) (details_of (get_or s.state.devices q.owner blank) q.address)
        → Lent near (bytes_of t p) s.state.decoder s.state.devices s.state.table s.state.logs
    unfolding found_device
    streaming-lent taken =
        record {
          ill = well;
          many = g.many;
          seen = seen_by taken found-is (ap (λ (x : Sight). x.number) seen) (ap (λ (i : ℕ). get_or s.state.devices i blank) place_is)
              (ap (λ (x : Sight). details_of (get_or s.state.devices x.owner blank) x.address) seen);
        }

  -- ---- what a packet leaves

  module _ {answer : ℕ} {s' : State} {h' : List ℕ} (x : PacketCall (bytes_of t p) p.time s.state s.shelf answer s' h') where
    -- a refused packet leaves all as it was, what is the loop's too: the devices, the log of requests and the shelf
    left : accepts answer ≡ false → stand (state s'.decoder s.state.devices s'.table (with_requests s.state.logs.requests s'.logs)) s.shelf ≡ s
    left h =
        let same = (packet-kept (bytes_of t p) p.time s.state s.shelf x h).0 in
        λ i. stand (state (same i).decoder s.state.devices (same i).table (with_requests s.state.logs.requests (same i).logs)) s.shelf

    refuses : accepts answer ≡ false → Refused r t at c s answer
    refuses h =
        let same = packet-kept (bytes_of t p) p.time s.state s.shelf x h in
        record {
          part = p;
          calls = record { finds = k.finds; call = subst (λ (u : Stand). PacketCall (bytes_of t p) p.time s.state s.shelf answer u.state u.shelf) (λ i. stand (same.0 i) (same.1 i)) x };
          refused = h;
        }

    pub streaming_stops : accepts answer ≡ false → Runs r t at₀ c₀ s₀ (record { going = false; answer = answer; taken = n; eights = e; place = at; clock = c; decoder = s'.decoder; devices = s.state.devices }) s'.table (with_requests s.state.logs.requests s'.logs) s.shelf
    streaming_stops h =
        record {
          led = subst (Led r t at₀ c₀ s₀ n e at c) (sym (left h)) g.led;
          over = λ z. subst (λ (u : Stand). Refused r t at c u answer) (sym (left h)) (refuses h);
          counted = (g.few, g.eights);
        }

    pub streaming-more : {a' : List ℕ} {u : ℕ} {c' : Clock} → c' ≡ clock_by p → accepts answer ≡ true → u ≡ one (eqb answer 8) → Addressed 64 a' s'.devices → SameSizes s.state.logs s'.logs
        → Streaming r b t at₀ c₀ s₀ (n + 1) (e + u) p.next c' (stand s' h') a'
    streaming-more k' h q d z =
        let o = packet-stays (bytes_of t p) p.time s.state s.shelf answer s' h' x h in
        record {
          led = more_by p g.led (record { finds = k.finds; call = x }) h q k';
          few = omega (arith, g.few, inside.grows);
          eights = omega (arith, g.eights, eight_small answer q);
          sizes = λ j w. z j w ∙ g.sizes j w;
          fits = stays_fit o b g.fits;
          many = o.many ∙ g.many;
          addressed = d;
        }
