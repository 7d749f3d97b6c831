use Rattle.std.proofs.Common.{rules}
use Prim.Native.Nat.{ℕ, ◌+◌, ◌*◌, ◌<◌, ◌^◌}
use native.Mathlib.Omega.{arith}
use mathlib.Core.Bool.{true, false}
use mathlib.Core.List.{[], ◌∷◌}
use mathlib.Core.Path.{◌≡◌, refl, sym, ap, subst, ◌∙◌}
use lib.ListN.{length}
use lib.Seq.{sets, length-sets}
use Rattle.rows.specs.One.{one}
use Rattle.rows.specs.Sets.{opt, one_small}
use Rattle.rows.specs.Widths.{link_width}
use Rattle.endpoints.specs.Link.{T}
use Rattle.endpoints.specs.Table.{store_at}
use Rattle.endpoints.specs.declared.Endpoint.{Endpoint}
use Rattle.transaction.specs.Payload.{start_pid}
use Rattle.rules.specs.declared.EventState.TheVariants.{Idle}
use Rattle.rules.specs.declared.Slot.TheVariants.{Empty}
use Rattle.update.specs.Effect.{passes, effect_entry}
use Rattle.update.specs.Entry.{words_after}
use Rattle.write_packet.specs.Desk.{total_words}
use Rattle.quick.specs.Light.{is_quiet, light_entry}
use Rattle.update.specs.declared.Update.{Update}
use Rattle.quick.specs.Room.{more_rows}
use Rattle.quick.proofs.Fit.{fit_same}
use Rattle.quick.proofs.LightEnd.{words_light, light-total}
use Rattle.rows.proofs.FlagLaws.{from-one}
use Rattle.quick.proofs.light.light_only.Goals as goal

-- the entry once the update is made
entry_is : (u : Update) (e : Endpoint) {pid p : ℕ} {x : Endpoint} → x ≡ words_after u pid e → pid ≡ p → is_quiet u ≡ true → e.transactions + one u.link < 2 ^ 64 → x ≡ light_entry u p e
entry_is u e {p = p} h k q f = h ∙ (ap (λ (p : ℕ). words_after u p e) k ∙ words_light u p e q f)

pub light_link-transaction-requires : goal.light_link-transaction-requires
light_link-transaction-requires c = let h = c.requires.link_width_in_bounds in omega (arith, h)

pub total_row-requires : goal.total_row-requires
total_row-requires c =
    let l = c.light_link-transaction.ensures.links_after in
    let e = (c.from.ensures ∙ from-one _) in
    let z = ap length l ∙ length-sets c.args.links.now (c.args.held.links * link_width) (opt c.args.end.update.link (T ∷ c.args.t.endpoint ∷ c.args.t.id ∷ 0 ∷ [])) in
    let h = c.requires.link_width_in_bounds in
    omega (arith, e, z, h)

pub entry_effect-requires : goal.entry_effect-requires
entry_effect-requires c =
    let s = c in
    let e = entry_is s.args.end.update s.args.end.entry c.entry_update-e.ensures c.start_pid.ensures s.requires.update_value s.requires.link_bound in
    subst (λ (a : Endpoint). passes s.args.end.effect a.total ≡ false) (sym e) (light-total s.args.end.update (start_pid s.args.t.style) s.args.end.entry s.args.end.effect s.requires.total_value)

pub store-requires : goal.store-requires
store-requires c = c.requires.endpoint_bound

pub more_rows-counts-requires : goal.more_rows-counts-requires
more_rows-counts-requires c = fit_same refl c.link_rows.ensures c.requires.rows_fit

pub returns : goal.returns
returns c =
    let a = c.args in
    let d = a.d in
    let p = c.put_packet.ensures in
    let l = c.light_link-transaction.ensures in
    let e = entry_is a.end.update a.end.entry c.entry_update-e.ensures c.start_pid.ensures c.requires.update_value c.requires.link_bound in
    let x = a.t.endpoint in
    let f = a.end.effect in
    let token : start_pid a.t.style < 256 = search rules in
    let counts = c.more_rows-counts.ensures ∙ ap (λ (k : ℕ). more_rows 0 k (length a.packet.now) d.counts) c.link_rows.ensures in
    record {
      value = λ i. record { counts = counts i; slot = Empty; transaction = l.value i; last = d.last; event = Idle; keepalive = d.keepalive; waiting = d.waiting; finished = d.finished; high = d.high; time = a.time };
      table_after = c.store.ensures ∙ (ap (store_at a.table.now x) c.entry_effect.ensures ∙ λ i. store_at a.table.now x (effect_entry f (e i) (l.value i).link));
      bytes_after = p.bytes_after;
      packets_after = p.packets_after;
      links_after = c.total_row.ensures ∙ λ i. sets (l.links_after i) ((a.held.links + (c.from.ensures ∙ from-one _) i) * link_width) (total_words f x (e i) (l.value i).link);
      style_bound = token;
    }
