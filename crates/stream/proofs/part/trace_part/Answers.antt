use Rattle.std.proofs.Common.{rules}
use Rattle.stream.proofs.part.trace_part.Goals as goal

pub returns-in-Packet : goal.returns-in-Packet
returns-in-Packet c = simp (c.in-Packet.is, c.is_short.ensures, c.tick-ticked.ensures)
