-- Each kind's lines stand behind those before it, and all of them are the listing.
-- Assumes nothing.
use Rattle.std.proofs.Common.{◌≡◌, ℕ, ◌≤◌, true, ltb, length, refl, arith}
use borrow.Author.Tests.{ltb-true}
use Rattle.rows.specs.Widths.{place}
use Rattle.rows.proofs.WidthsLaws.{log-number}
use Rattle.record.specs.declared.Counts.{Counts}
use Rattle.call.specs.State.{Logs, log_at, count_at}
use Rattle.lines.specs.Listing.{Counted}
use Rattle.lines.proofs.Whole.{room_title, room_devices, room_endpoints, room_packets, room_events, room_transactions, room_groups, room_states, room_items, room_links, room_requests, whole}
use Rattle.lines.proofs.list.Goals as goal

has : (n : Counts) (l : Logs) → Counted n l → (k : ℕ) → ltb 0 k ≡ true → ltb k 12 ≡ true → place k (count_at k n) ≤ length (log_at k l)
has n l h k a b = h k (ltb-true 0 k a) (log-number k b)

pub title_line-next-requires : goal.title_line-next-requires
title_line-next-requires c = room_title _ _ _ c.requires.room

pub lines-next-requires-clause-kind_in_bounds : goal.lines-next-requires-clause-kind_in_bounds
lines-next-requires-clause-kind_in_bounds c = has _ _ c.requires.counted 1 refl refl

pub lines-next-requires-clause-room : goal.lines-next-requires-clause-room
lines-next-requires-clause-room c = room_devices _ _ c.requires.room c.title_line-next.ensures

pub lines-next-requires-2-clause-kind_in_bounds : goal.lines-next-requires-2-clause-kind_in_bounds
lines-next-requires-2-clause-kind_in_bounds c = has _ _ c.requires.counted 2 refl refl

pub lines-next-requires-2-clause-room : goal.lines-next-requires-2-clause-room
lines-next-requires-2-clause-room c = room_endpoints _ _ c.requires.room c.title_line-next.ensures c.lines-next.ensures

pub lines-next-requires-3-clause-kind_in_bounds : goal.lines-next-requires-3-clause-kind_in_bounds
lines-next-requires-3-clause-kind_in_bounds c = has _ _ c.requires.counted 3 refl refl

pub lines-next-requires-3-clause-room : goal.lines-next-requires-3-clause-room
lines-next-requires-3-clause-room c = room_packets _ _ c.requires.room c.title_line-next.ensures c.lines-next.ensures c.lines-next-2.ensures

pub lines-next-requires-4-clause-kind_in_bounds : goal.lines-next-requires-4-clause-kind_in_bounds
lines-next-requires-4-clause-kind_in_bounds c = has _ _ c.requires.counted 4 refl refl

pub lines-next-requires-4-clause-room : goal.lines-next-requires-4-clause-room
lines-next-requires-4-clause-room c = room_events _ _ c.requires.room c.title_line-next.ensures c.lines-next.ensures c.lines-next-2.ensures c.lines-next-3.ensures

pub lines-next-requires-5-clause-kind_in_bounds : goal.lines-next-requires-5-clause-kind_in_bounds
lines-next-requires-5-clause-kind_in_bounds c = has _ _ c.requires.counted 5 refl refl

pub lines-next-requires-5-clause-room : goal.lines-next-requires-5-clause-room
lines-next-requires-5-clause-room c = room_transactions _ _ c.requires.room c.title_line-next.ensures c.lines-next.ensures c.lines-next-2.ensures c.lines-next-3.ensures c.lines-next-4.ensures

pub lines-next-requires-6-clause-kind_in_bounds : goal.lines-next-requires-6-clause-kind_in_bounds
lines-next-requires-6-clause-kind_in_bounds c = has _ _ c.requires.counted 6 refl refl

pub lines-next-requires-6-clause-room : goal.lines-next-requires-6-clause-room
lines-next-requires-6-clause-room c = room_groups _ _ c.requires.room c.title_line-next.ensures c.lines-next.ensures c.lines-next-2.ensures c.lines-next-3.ensures c.lines-next-4.ensures c.lines-next-5.ensures

pub state_lines-next-requires-clause-n_in_bounds : goal.state_lines-next-requires-clause-n_in_bounds
state_lines-next-requires-clause-n_in_bounds c = omega (arith, has _ _ c.requires.counted 8 refl refl)

pub state_lines-next-requires-clause-m_in_bounds : goal.state_lines-next-requires-clause-m_in_bounds
state_lines-next-requires-clause-m_in_bounds c = omega (arith, has _ _ c.requires.counted 7 refl refl)

pub state_lines-next-requires-clause-room : goal.state_lines-next-requires-clause-room
state_lines-next-requires-clause-room c = room_states _ _ c.requires.room c.title_line-next.ensures c.lines-next.ensures c.lines-next-2.ensures c.lines-next-3.ensures c.lines-next-4.ensures c.lines-next-5.ensures c.lines-next-6.ensures

pub lines-next-requires-7-clause-kind_in_bounds : goal.lines-next-requires-7-clause-kind_in_bounds
lines-next-requires-7-clause-kind_in_bounds c = has _ _ c.requires.counted 9 refl refl

pub lines-next-requires-7-clause-room : goal.lines-next-requires-7-clause-room
lines-next-requires-7-clause-room c = room_items _ _ c.requires.room c.title_line-next.ensures c.lines-next.ensures c.lines-next-2.ensures c.lines-next-3.ensures c.lines-next-4.ensures c.lines-next-5.ensures c.lines-next-6.ensures c.state_lines-next.ensures

pub lines-next-requires-8-clause-kind_in_bounds : goal.lines-next-requires-8-clause-kind_in_bounds
lines-next-requires-8-clause-kind_in_bounds c = has _ _ c.requires.counted 10 refl refl

pub lines-next-requires-8-clause-room : goal.lines-next-requires-8-clause-room
lines-next-requires-8-clause-room c = room_links _ _ c.requires.room c.title_line-next.ensures c.lines-next.ensures c.lines-next-2.ensures c.lines-next-3.ensures c.lines-next-4.ensures c.lines-next-5.ensures c.lines-next-6.ensures c.state_lines-next.ensures c.lines-next-7.ensures

pub lines-requires-clause-kind_in_bounds : goal.lines-requires-clause-kind_in_bounds
lines-requires-clause-kind_in_bounds c = has _ _ c.requires.counted 11 refl refl

pub lines-requires-clause-room : goal.lines-requires-clause-room
lines-requires-clause-room c = room_requests _ _ c.requires.room c.title_line-next.ensures c.lines-next.ensures c.lines-next-2.ensures c.lines-next-3.ensures c.lines-next-4.ensures c.lines-next-5.ensures c.lines-next-6.ensures c.state_lines-next.ensures c.lines-next-7.ensures c.lines-next-8.ensures

pub returns : goal.returns
returns c = whole _ _ c.requires.room c.title_line-next.ensures c.lines-next.ensures c.lines-next-2.ensures c.lines-next-3.ensures c.lines-next-4.ensures c.lines-next-5.ensures c.lines-next-6.ensures c.state_lines-next.ensures c.lines-next-7.ensures c.lines-next-8.ensures c.lines.ensures
