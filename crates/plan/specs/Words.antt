-- Inner (cited by private contracts alone): a plan as the code makes it. It is made before its room is known, so a number that would pass 2^64 - 1 goes on at
-- 0 there. Nothing else of a plan depends on these numbers, and a plan that there is room for has none that passes (proofs, Words and Sound).
use Rattle.std.specs.Prelude.{ℕ, ◌%◌, ◌^◌, Bool}
use Rattle.transaction.specs.Payload.{start_pid}
use Rattle.transaction.specs.Table.{pick}
use Rattle.endpoints.specs.declared.Endpoint.{Endpoint}
use Rattle.rules.specs.World.{with_id}
use Rattle.update.specs.Entry.{counted, words_after, transaction_after, item_after}
use Rattle.plan.specs.Step.{end_of}
use Rattle.plan.specs.declared.Begin.{Begin}
use Rattle.plan.specs.declared.End.{End}
use Rattle.plan.specs.declared.Middle.{Middle}
use Rattle.plan.specs.declared.Plan.{Plan}

-- the counts of an entry
abbrev pub in_words : Endpoint → Endpoint
in_words e = counted (e.transactions % 2 ^ 64) (e.groups % 2 ^ 64) e

abbrev pub end_words : End → End
end_words s = record { entry = in_words s.entry; update = s.update; effect = s.effect }

-- the number of a row
abbrev pub begin_words : Begin → Begin
begin_words s =
    record {
      row = s.row;
      device = s.device;
      endpoint = s.endpoint;
      types = s.types;
      owner = s.owner;
      place = s.place;
      number = s.number;
      kind = s.kind;
      transaction = with_id (pick s.row (s.transaction.id % 2 ^ 64) s.transaction.id) s.transaction;
      update = s.update;
    }

abbrev pub middle_words : Middle → Middle
middle_words m = record { begin = begin_words m.begin; entry = in_words m.entry; detail = m.detail }

unfoldable pub plan_words : Plan → Plan
plan_words p =
    record {
      resumes = p.resumes;
      resume = p.resume;
      ends = p.ends;
      old = p.old;
      brought = p.brought;
      end = end_words p.end;
      begin = begin_words p.begin;
      closes = p.closes;
      close = end_words p.close;
      slot = p.slot;
      reason = p.reason;
    }

-- close_of, with the entry after the step in words
abbrev pub close_words : Middle → ℕ → Bool → Bool → End
close_words m last success complete =
    let s = m.begin in
    let t = s.transaction in
    end_of t.endpoint (words_after s.update (start_pid t.style) m.entry) (transaction_after s.update m.entry.transactions t) m.detail (item_after s.update t.endpoint last) success complete
