-- Inner (cited by private contracts alone): the cases of the code's Act and Turn in the words of the rules (rules, Events), and which rows an event has.
use Rattle.std.specs.Prelude.{Bool, true, false, not, ℕ}
use Rattle.rules.specs.Events as rules
use Rattle.rules.specs.declared.Slot.{Slot}
use Rattle.rules.specs.declared.Slot.TheVariants.{Empty, Current, Suspended}
use Rattle.event.specs.declared.Act.{Act}
use Rattle.event.specs.declared.Act.TheVariants.{Nothing, Single, Group, Subgroup, Keepalive}
use Rattle.event.specs.declared.Turn.{Turn}

abbrev pub act_of : Act → rules.Act
act_of Nothing = rules.nothing
act_of Single = rules.single
act_of Group = rules.group
act_of Subgroup = rules.subgroup
act_of Keepalive = rules.keepalive

abbrev pub told : Turn → rules.Turn
told t = record { act = act_of t.act; next = t.next }

-- event_add_subgroup, and the T row of its caller
abbrev pub adds_row : rules.Act → Bool
adds_row rules.nothing = false
adds_row rules.single = true
adds_row rules.group = true
adds_row rules.subgroup = true
adds_row rules.keepalive = true

-- event_add_group; of a keepalive where there is no keepalive group yet
abbrev pub adds_group : rules.Act → Bool → Bool
adds_group rules.nothing k = false
adds_group rules.single k = true
adds_group rules.group k = true
adds_group rules.subgroup k = false
adds_group rules.keepalive k = not k

-- handle_event has ended or suspended the transaction
abbrev pub is_current : Slot → Bool
is_current Empty = false
is_current Current = true
is_current Suspended = false
