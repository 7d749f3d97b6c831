-- The claim (specs/Exchange): its last part, for the file as a whole, and the parts together. It stands apart from proofs/Answered, whose statements a wrong
-- program changes, so that such an edit can be read.
use Prim.Native.Nat.{ℕ, ◌≤◌}
use mathlib.Core.Bool.{Bool, true, false, cond, true≢false}
use mathlib.Core.List.{List, [], ◌∷◌, ◌++◌, append_assoc}
use mathlib.Core.Path.{◌≡◌, refl, sym, ap, subst, ◌∙◌}
use mathlib.Core.Logic.{◌⊎◌, inl, inr}
use borrow.Author.Tests.{le-ltb, ltb-false}
use lib.ListN.{length}
use Rattle.transaction.specs.Table.{pick}
use Rattle.record.specs.Answers.{first_of, packet_tests}
use Rattle.sound.proofs.Keeps.{passed}
use Rattle.record.specs.declared.Decoder.{Decoder}
use Rattle.pcap.specs.Pcap.{next_at}
use Rattle.pcap.specs.File.{Item, head_bytes, item_bytes, body_of}
use Rattle.pcap.specs.Fits.{Fits}
use Rattle.pcap.specs.Export.{written_format, items_of, file_bytes, late}
use Rattle.pcap.proofs.Written.{item-end, item-next}
use Rattle.pcap.specs.declared.Next.{Next}
use Rattle.rules.specs.Demand.{Call, packet, event, detail, finishing}
use Rattle.rules.specs.Rows.{Row}
use Rattle.call.specs.Outcome.{accepts, is_ill, decoder_of}
use Rattle.call.specs.State.{State}
use Rattle.packet.specs.Call.{tests_of, PacketCall}
use Rattle.step.specs.Block.{Stand, stand}
use Rattle.demands.specs.Sequence.{Does, Sequence, made, then}
use Rattle.demands.proofs.Meets.{meets}
use Rattle.once.proofs.Follows.{follows}
use Rattle.export.specs.Record.{source_in}
use Rattle.import.specs.Import.{Gives, behind, Imports, ImportsFile}
use Rattle.import.specs.Import.Imports.{done, stops, goes}
use Rattle.import.proofs.ImportLaws.{none_here}
use Rattle.exchange.specs.Exchange.{item_by, packets_of, Exchange}
use Rattle.exchange.proofs.Flows.{exported, left_behind}
use Rattle.exchange.proofs.Back.{called, more, at-end, fits, behind-head, back}
use Rattle.exchange.proofs.Answered.{TakenOrFull, Shorts, shorts, answered}

answers : {js : List Row} {s : State} (q : Sequence js s) → late (items_of (source_in s)) ≡ false
    → {js' : List Row} {s' : State} → Sequence js' s' → s'.decoder.finished ≡ false → (s'' : State) (h h'' : List ℕ) (n e a p : ℕ) → ImportsFile (file_bytes (source_in s)) (stand s' h) n e a p (stand s'' h'')
    → TakenOrFull a
answers {s = s} q ok {s' = s'} q' f s'' h h'' n e a p i =
    answered (items_of (source_in s)) (head_bytes written_format) (fits q ok) (subst Shorts (sym (exported q)) (shorts q)) q' f refl (behind-head q ok (stand s' h) (stand s'' h'') n e a p i)

-- ---- the claim

pub exchange : Exchange
exchange = record { exported = λ q. exported q; left_behind = λ q. left_behind q; back = λ q ok q'. back q ok q'; answers = λ q ok q' f. answers q ok q' f }
