use Prim.Native.Nat.{ℕ}
use mathlib.Core.List.{List}
use mathlib.Core.Path.{◌≡◌, ap, ◌∙◌}
use Rattle.handle.specs.Words.{decoder_in, devices_in, rows_stored, stored}
use Rattle.handle.proofs.WordsLaws.{decoder-stored, devices-stored}
use Rattle.handle.proofs.store_record.Goals as goal
use Rattle.std.proofs.Common.{◌-◌}
use Rattle.handle.specs.Size as size

pub returns : goal.returns
unfolding stored
returns c = let words : (let a = c.args in c.store_devices.new.words ≡ stored a.words.now a.d a.devices) = c.store_devices.ensures.words_after ∙ ap (λ (l : List ℕ). rows_stored l 0 c.args.devices) c.store_decoder.ensures.words_after in
    let a = c.args in
    let l = c.told-words in
    let e = words in record { words_after = e; words_after_2 = ap decoder_in e ∙ decoder-stored a.words.now a.d a.devices c.store_decoder.ensures.transaction_fits l; words_after_3 = ap devices_in e ∙ devices-stored a.words.now a.d a.devices c.store_devices.ensures.devices_fit c.store_devices.ensures.devices_len l }
