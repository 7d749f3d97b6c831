-- Inner (cited by private contracts alone): the shape of a packet, as the code decides it (src/shape.rt), and what it means that it is right.
use Rattle.std.specs.Prelude.{ℕ, ◌≡◌, Bool, true, false, ◌&&◌, not, List, eqb, length}
use Rattle.usb.specs.Fields.{setup_data_of}
use Rattle.usb.specs.Pid.{SOF}
use Rattle.details.specs.Kind.{Framing}
use Rattle.details.specs.declared.Detail.{Detail}
use Rattle.endpoints.specs.declared.Endpoint.{Endpoint}
use Rattle.transaction.specs.Payload.{start_pid, extract_payload}
use Rattle.transaction.specs.declared.Status.{Status}
use Rattle.transaction.specs.declared.Status.TheVariants.{New, Continue, Retry, Done, Fail, Ambiguous, Invalid}
use Rattle.transaction.specs.declared.Style.{Style}
use Rattle.transaction.specs.declared.Style.TheVariants.{Nothing, Simple, Split, Token}
use Rattle.transaction.specs.declared.Transaction.{Transaction}
use Rattle.group.specs.Step.{is_active}
use Rattle.rules.specs.Endpoints.{detail_of}
use Rattle.rules.specs.Transactions.{is_dropped}
use Rattle.rules.specs.World.{World, framing_ep, with_pid}
use Rattle.rules.specs.declared.Slot.{Slot}
use Rattle.rules.specs.declared.Slot.TheVariants.{Empty, Current, Suspended}
use Rattle.update.specs.Update.{decide_early_append}
use Rattle.plan.specs.Packet.{old_endpoint, keeps}
use Rattle.plan.specs.Step.{end_of}
use Rattle.plan.specs.declared.End.{End}
use Rattle.plan.specs.declared.Plan.{Plan}
use Rattle.quick.specs.Begin.{Begins}
use Rattle.quick.specs.Close.{CloseOnly}
use Rattle.quick.specs.declared.shape.Shape.{Shape}

-- ---- the shapes

abbrev pub no_shape : Transaction → Shape
no_shape t = record { begins = false; row = false; link = false; closes = false; success = false; transaction = t }

abbrev pub begin_shape : Bool → Bool → Transaction → Shape
begin_shape row link t = record { begins = true; row = row; link = link; closes = false; success = false; transaction = t }

-- of a transaction on the endpoint x; on no endpoint nothing ends
abbrev pub close_shape : Bool → ℕ → Transaction → Shape
close_shape success x t = record { begins = false; row = false; link = false; closes = not (eqb x 0); success = success; transaction = t }

-- of a packet behind others of a plain transaction on the endpoint x with the entry e, by its status; t is the transaction with what it brought
abbrev pub next_shape : Status → ℕ → Endpoint → Transaction → Shape
next_shape New x e t = no_shape t
next_shape Continue x e t = begin_shape false (decide_early_append t e).link t
next_shape Retry x e t = close_shape true x t
next_shape Done x e t = close_shape true x t
next_shape Fail x e t = close_shape false x t
next_shape Ambiguous x e t = begin_shape false false t
next_shape Invalid x e t = no_shape t

-- ---- what they go by

-- the transaction t with what the packet brings to it
abbrev pub brought_to : Bool → Transaction → ℕ → List ℕ → Transaction
brought_to high t pid packet = with_pid pid (extract_payload high t pid (length packet) (setup_data_of packet))

abbrev pub is_simple : Style → Bool
is_simple Nothing = false
is_simple (Simple first) = true
is_simple (Split sc kind) = false
is_simple (Token sc kind pid) = false

-- an old SOF whose end changes no word: it has its T row, its group is active, and a SOF was the last that went well there; old is what is known of its endpoint, and e the
-- framing endpoint's entry
abbrev pub rests_on : Transaction → Detail → Endpoint → Bool
rests_on t old e =
    eqb t.endpoint framing_ep
    && (eqb (start_pid t.style) SOF
    && (t.linked
    && (is_active e.phase
    && (e.done
    && (eqb e.last SOF
    && (not e.pending
    && eqb old.kind Framing))))))

-- whether a token begins with nothing to do before: there is no old transaction, or one at rest
abbrev pub is_free : Slot → Transaction → Detail → Endpoint → Bool
is_free Empty t old e = true
is_free Current t old e = rests_on t old e
is_free Suspended t old e = false

-- whether a plain transaction is current
abbrev pub is_plain : Slot → Style → Bool
is_plain Empty s = false
is_plain Current s = is_simple s
is_plain Suspended s = false

-- ---- right of the plan p on the world w; its payload, if there is one, is not laid by

pub record Begun (high : Bool) (q : Shape) (p : Plan) (w : World) : Type 0 where
  pub live : is_dropped w.slot w.transaction ≡ false
  pub plan : Begins p w q.row q.transaction q.link
  pub kept : keeps high p ≡ false

-- the end of the transaction that is held
abbrev pub held_end : Bool → Transaction → World → End
held_end success t w =
    let x = old_endpoint w.slot w.transaction in
    end_of x (w.endpoints x) t (detail_of x w) w.last_item success true

pub record Closed (high : Bool) (q : Shape) (p : Plan) (w : World) : Type 0 where
  pub live : is_dropped w.slot w.transaction ≡ false
  pub plan : CloseOnly p q.transaction (held_end q.success q.transaction w) Empty
  pub kept : keeps high p ≡ false

pub record Shaped (high : Bool) (q : Shape) (p : Plan) (w : World) : Type 0 where
  pub begins : q.begins ≡ true → Begun high q p w
  pub closes : q.closes ≡ true → Closed high q p w
