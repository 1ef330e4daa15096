-- What an injector is fed keeps what it stands for.
use Rattle.std.proofs.Common.{◌≡◌, ℕ, ◌+◌, ◌-◌, ◌≤◌, ◌<◌, List, ◌++◌, length, take, drop, Option, Some, None, Bool, true, false, refl, sym, ap, ◌∙◌, subst, ⊎_elim, arith, length-append, length-drop}
use Rattle.std.specs.Prelude.{if◌then◌else◌, nat_lt, slice_get}
use Rattle.std.proofs.lemmas.List.{take_all, take-append-drop, take-append-le, drop-append-le, length-take-le, append_assoc, append-nil}
use Rattle.std.proofs.lemmas.Bool.{cases_lt, lt-ltb, le-ltb, ltb-true, ltb-false}
use Rattle.std.proofs.Math.Seq.{take-append-add, take-append_seam}
use Rattle.call_fs.specs.declared.past.Own.{Own}
use Rattle.envelope_records.specs.Envelope.{Reading, read_envelope, todo_head}
use Rattle.envelope_records.specs.Envelope.Reading.{Whole, Open, Broken}
use Rattle.queue_inject.specs.declared.injection.Arguments.{Arguments}
use Rattle.queue_inject.specs.declared.injection.InputEnd.{InputEnd}
use Rattle.queue_inject.specs.declared.injection.InputEnd.TheVariants as ends
use Rattle.queue_inject.specs.declared.injection.Part.{Part}
use Rattle.queue_inject.specs.declared.injection.Part.TheVariants.{Message, Envelope}
use Rattle.queue_inject.specs.declared.intake.Verdict.{Verdict}
use Rattle.queue_inject.specs.declared.intake.Verdict.TheVariants as verdict
use Rattle.queue_inject.specs.declared.row.Row.{Row}
use Rattle.queue_inject.specs.declared.row.Row.TheVariants as at
use Rattle.received_line.specs.Received.{received_text}
use Rattle.queue_inject.specs.Texts.{limit, message_end, end_status, message_text, envelope_text, envelope_of, intd_text}
use Rattle.queue_inject.specs.Machine.{Heard, Machine, asks_by, asks, with_message, new_todo}
use Rattle.queue_inject.specs.Rows.{is_open, part_in, message_over}
use Rattle.queue_inject.specs.Stands.{IsNext, message_read, HearsOn, HearsMessage, verdict_by, taken_by, verdict_of, taken, Reads, ReadsOn, HearsTodo, Hears, Stands, GoesOn, ContinuesBy, Continues, EndsBy, Ends}
use Rattle.queue_inject.proofs.Feeding.{is_closed_tells, closed_more, taken_more, reads_begun}

-- More of an input

take_part : (whole : List ℕ) (fed : ℕ) (bytes : List ℕ) → fed ≤ length whole → GoesOn whole fed bytes → take (fed + length bytes) whole ≡ take fed whole ++ bytes
take_part whole fed bytes inside g =
    let front : List ℕ = take fed whole in
    let len : length front ≡ fed = length-take-le fed whole inside in
    let is : whole ≡ front ++ (bytes ++ g.rest) = sym (take-append-drop fed whole) ∙ ap (λ t. front ++ t) g.next in
    ap (λ n. take (n + length bytes) whole) (sym len) ∙ ap (take (length front + length bytes)) is
    ∙ take-append-add front (bytes ++ g.rest) (length bytes) ∙ ap (λ t. front ++ t) (take-append_seam bytes g.rest)

part_inside : (whole : List ℕ) (fed : ℕ) (bytes : List ℕ) → fed ≤ length whole → GoesOn whole fed bytes → fed + length bytes ≤ length whole
part_inside whole fed bytes inside g =
    let next = ap length g.next in
    omega (arith, length-drop fed whole, length-append bytes g.rest)

limit_part : (most : ℕ) (front bytes : List ℕ) → take most (front ++ bytes) ≡ take most front ++ take (most - length front) bytes
limit_part most front bytes = ⊎_elim
    (λ long.
    let over : most ≡ length front + (most - length front) = omega arith in
    ap (λ n. take n (front ++ bytes)) over ∙ take-append-add front bytes (most - length front)
    ∙ ap (λ t. t ++ take (most - length front) bytes) (sym (take_all most front (omega arith))))
    (λ short.
    let none : most - length front ≡ 0 = omega arith in
    take-append-le most front bytes short ∙ sym (append-nil (take most front)) ∙ ap (λ n. take most front ++ take n bytes) (sym none))
    (cases_lt (length front) most)

take_front : (most fed : ℕ) (whole : List ℕ) → most ≤ fed → fed ≤ length whole → take most (take fed whole) ≡ take most whole
take_front most fed whole long inside =
    sym (take-append-le most (take fed whole) (drop fed whole) (omega (arith, length-take-le fed whole inside))) ∙ ap (take most) (take-append-drop fed whole)

-- The message

-- its text goes on
message_goes_on : (args : Arguments) (fed : ℕ) (bytes : List ℕ) → fed ≤ length args.message → GoesOn args.message fed bytes
    → message_read args fed ++ take (limit - fed) bytes ≡ message_read args (fed + length bytes)
message_goes_on args fed bytes inside g =
    let line : List ℕ = received_text args.pid args.invoked args.start in
    let front : List ℕ = take fed args.message in
    let len : length front ≡ fed = length-take-le fed args.message inside in
    append_assoc line (take limit front) (take (limit - fed) bytes)
    ∙ ap (λ t. line ++ t) (ap (λ n. take limit front ++ take (limit - n) bytes) (sym len) ∙ sym (limit_part limit front bytes) ∙ ap (take limit) (sym (take_part args.message fed bytes inside g)))

message_front : (args : Arguments) (fed : ℕ) → fed ≤ length args.message → (rest : List ℕ) × ((message_text args).bytes ≡ message_read args fed ++ rest)
unfolding message_text
message_front args fed inside =
    let line : List ℕ = received_text args.pid args.invoked args.start in
    let front : List ℕ = take fed args.message in
    let behind : List ℕ = drop fed args.message in
    let rest : List ℕ = take (limit - length front) behind in (
      rest,
      ap (λ t. line ++ take limit t) (sym (take-append-drop fed args.message)) ∙ ap (λ t. line ++ t) (limit_part limit front behind)
          ∙ sym (append_assoc line (take limit front) rest),
    )

-- it is all known once more than the limit was fed, or all of the message
message_all : (args : Arguments) (fed : ℕ) → fed ≤ length args.message → limit ≤ fed → (message_text args).bytes ≡ message_read args fed
unfolding message_text
message_all args fed inside long = ap (λ t. received_text args.pid args.invoked args.start ++ t) (sym (take_front limit fed args.message long inside))

message_over_bytes : (args : Arguments) (fed : ℕ) → fed ≡ length args.message → (message_text args).bytes ≡ message_read args fed
unfolding message_text
message_over_bytes args fed all = ap (λ t. received_text args.pid args.invoked args.start ++ take limit t) (sym (take_all fed args.message (omega arith)))

too_long : (args : Arguments) → limit < length args.message → (message_text args).fault ≡ Some 31
unfolding message_text
too_long args long = ap (λ t. if t then Some 31 else message_end args.message_end) (lt-ltb limit (length args.message) long)

not_too_long : (args : Arguments) (end : InputEnd) → length args.message ≤ limit → args.message_end ≡ end → (message_text args).fault ≡ message_end end
unfolding message_text
not_too_long args end short is = ap (λ t. if t then Some 31 else message_end args.message_end) (le-ltb limit (length args.message) short) ∙ ap message_end is

fed_by : (h : Heard) (args : Arguments) (done : ℕ) (bytes : List ℕ) (t : Bool) → nat_lt limit (h.fed + length bytes) ≡ t → HearsOn h args done → GoesOn args.message h.fed bytes
    → HearsMessage (if t then verdict.Faulty 31 else verdict.Open) (with_message h bytes) args done
fed_by h args done bytes true long m g =
    let over : limit < h.fed + length bytes = ltb-true limit (h.fed + length bytes) long in
    let inside : h.fed + length bytes ≤ length args.message = part_inside args.message h.fed bytes m.inside g in (
      ap (drop done) (message_all args (h.fed + length bytes) inside (omega arith) ∙ sym (message_goes_on args h.fed bytes m.inside g))
          ∙ drop-append-le done (message_read args h.fed) (take (limit - h.fed) bytes) m.written ∙ ap (λ t. t ++ take (limit - h.fed) bytes) (sym m.piece),
      too_long args (omega arith),
    )
fed_by h args done bytes false short m g = record {
  inside = part_inside args.message h.fed bytes m.inside g;
  within = ltb-false limit (h.fed + length bytes) short;
  written =
      let on = ap length (sym (message_goes_on args h.fed bytes m.inside g)) in
      let before = m.written in
      omega (arith, length-append (message_read args h.fed) (take (limit - h.fed) bytes));
  piece = ap (λ t. t ++ take (limit - h.fed) bytes) m.piece ∙ sym (drop-append-le done (message_read args h.fed) (take (limit - h.fed) bytes) m.written)
      ∙ ap (drop done) (message_goes_on args h.fed bytes m.inside g);
}

pub message_fed : (h : Heard) (args : Arguments) (done : ℕ) (bytes : List ℕ) → h.verdict ≡ verdict.Open → HearsMessage h.verdict h args done → GoesOn args.message h.fed bytes
    → HearsMessage (with_message h bytes).verdict (with_message h bytes) args done
message_fed h args done bytes going m g =
    let t : Bool = nat_lt limit (h.fed + length bytes) in
    subst (λ v. HearsMessage (if t then verdict.Faulty 31 else v) (with_message h bytes) args done) (sym going)
    (fed_by h args done bytes t refl (subst (λ v. HearsMessage v h args done) going m) g)

ended_by : (h : Heard) (args : Arguments) (done : ℕ) (end : InputEnd) → drop done (message_text args).bytes ≡ h.piece → (message_text args).fault ≡ message_end end
    → HearsMessage (message_over end) (record h { verdict = message_over end }) args done
ended_by h args done ends.Whole piece fault = (piece, fault)
ended_by h args done ends.Unread piece fault = (piece, fault)
ended_by h args done ends.Malformed piece fault = (piece, fault)

pub message_ended : (h : Heard) (args : Arguments) (done : ℕ) (end : InputEnd) → h.verdict ≡ verdict.Open → HearsMessage h.verdict h args done
    → (h.fed ≡ length args.message) × (args.message_end ≡ end) → HearsMessage (message_over end) (record h { verdict = message_over end }) args done
message_ended h args done end going heard e =
    let m : HearsOn h args done = subst (λ v. HearsMessage v h args done) going heard in
    let all = e.0 in
    let within = m.within in
    ended_by h args done end (ap (drop done) (message_over_bytes args h.fed e.0) ∙ sym m.piece) (not_too_long args end (omega arith) e.1)

-- what is known of its text
pub message_next : (v : Verdict) (h : Heard) (args : Arguments) (done : ℕ) → HearsMessage v h args done → IsNext v h.piece (message_text args) done
message_next verdict.Open h args done m =
    let w = message_front args h.fed m.inside in
    (w.0, ap (drop done) w.1 ∙ drop-append-le done (message_read args h.fed) w.0 m.written ∙ ap (λ t. t ++ w.0) (sym m.piece))
message_next verdict.Whole h args done m = m
message_next (verdict.Faulty status) h args done m = m

-- The envelope

-- the fault after an envelope that was read so far and then ended
abbrev fault_after : Verdict → InputEnd → Option ℕ
fault_after verdict.Open end = Some (end_status end)
fault_after verdict.Whole end = None
fault_after (verdict.Faulty status) end = Some status

fault_is : (r : Reading) (next : Option ℕ) (end : InputEnd) → (envelope_text r end next).fault ≡ fault_after (verdict_by r next) end
fault_is (Whole sender recipients) next end = refl
fault_is (Open stage) None end = refl
fault_is (Open stage) (Some b) end = refl
fault_is (Broken before fault) next end = refl

bytes_are : (r : Reading) (next : Option ℕ) (end : InputEnd) → (envelope_text r end next).bytes ≡ taken_by r
bytes_are (Whole sender recipients) next end = refl
bytes_are (Open stage) next end = refl
bytes_are (Broken before fault) next end = refl

todo_bytes : (args : Arguments) → (intd_text args).bytes ≡ todo_head args.uid args.pid ++ taken args.envelope
unfolding intd_text envelope_of
todo_bytes args = ap (λ t. todo_head args.uid args.pid ++ t) (bytes_are (read_envelope (take limit args.envelope)) (slice_get args.envelope limit) args.envelope_end)

todo_fault : (args : Arguments) → (intd_text args).fault ≡ fault_after (verdict_of args.envelope) args.envelope_end
unfolding intd_text envelope_of
todo_fault args = fault_is (read_envelope (take limit args.envelope)) (slice_get args.envelope limit) args.envelope_end

closed_fault : (v w : Verdict) (end : InputEnd) (fault : Option ℕ) → v ≡ w → fault_after v end ≡ fault → fault_after w end ≡ fault
closed_fault v w end fault e h = ap (λ x. fault_after x end) (sym e) ∙ h

-- if the envelope is no longer open its text is all known
todo_closed : (h : Heard) (args : Arguments) (done fed : ℕ) → Reads h done (todo_head args.uid args.pid) (take fed args.envelope) → is_open h.verdict ≡ false
    → (drop done (intd_text args).bytes ≡ h.piece) × ((intd_text args).fault ≡ fault_after h.verdict args.envelope_end)
todo_closed h args done fed r closed =
    let head : List ℕ = todo_head args.uid args.pid in
    let front : List ℕ = take fed args.envelope in
    let behind : List ℕ = drop fed args.envelope in
    let whole : front ++ behind ≡ args.envelope = take-append-drop fed args.envelope in
    let same = closed_more limit front behind (λ e. is_closed_tells h.verdict closed (r.verdict_is ∙ e)) in
    let text : taken args.envelope ≡ taken front = ap taken (sym whole) ∙ same.taken_is in
    let verdict_same : verdict_of args.envelope ≡ h.verdict = ap verdict_of (sym whole) ∙ same.verdict_is ∙ sym r.verdict_is in (
      ap (drop done) (todo_bytes args ∙ ap (λ t. head ++ t) text) ∙ sym r.piece,
      todo_fault args ∙ ap (λ v. fault_after v args.envelope_end) verdict_same,
    )

todo_at : (v : Verdict) (h : Heard) (args : Arguments) (done : ℕ) → h.verdict ≡ v → h.fed ≤ length args.envelope → Reads h done (todo_head args.uid args.pid) (take h.fed args.envelope)
    → HearsTodo v h args done
todo_at verdict.Open h args done is inside r = record { inside = inside; read = r }
todo_at verdict.Whole h args done is inside r =
    let w = todo_closed h args done h.fed r (ap is_open is) in (w.0, w.1 ∙ ap (λ v. fault_after v args.envelope_end) is)
todo_at (verdict.Faulty status) h args done is inside r =
    let w = todo_closed h args done h.fed r (ap is_open is) in (w.0, w.1 ∙ ap (λ v. fault_after v args.envelope_end) is)

pub todo_fed : (h n : Heard) (args : Arguments) (done : ℕ) (bytes : List ℕ) → h.verdict ≡ verdict.Open → HearsTodo h.verdict h args done → GoesOn args.envelope h.fed bytes
    → n.fed ≡ h.fed + length bytes → ((done : ℕ) (head read : List ℕ) → Reads h done head read → Reads n done head (read ++ bytes)) → HearsTodo n.verdict n args done
todo_fed h n args done bytes going heard g fed reads =
    let r : ReadsOn h args done = subst (λ v. HearsTodo v h args done) going heard in
    let inside = part_inside args.envelope h.fed bytes r.inside g in
    todo_at n.verdict n args done refl (omega arith)
    (subst (λ k. Reads n done (todo_head args.uid args.pid) (take k args.envelope)) (sym fed)
    (subst (Reads n done (todo_head args.uid args.pid)) (sym (take_part args.envelope h.fed bytes r.inside g)) (reads done (todo_head args.uid args.pid) (take h.fed args.envelope) r.read)))

pub todo_ended : (h : Heard) (args : Arguments) (done : ℕ) (end : InputEnd) → h.verdict ≡ verdict.Open → HearsTodo h.verdict h args done
    → (h.fed ≡ length args.envelope) × (args.envelope_end ≡ end) → IsNext (verdict.Faulty (end_status end)) h.piece (intd_text args) done
todo_ended h args done end going heard e =
    let r : ReadsOn h args done = subst (λ v. HearsTodo v h args done) going heard in
    let all : take h.fed args.envelope ≡ args.envelope = take_all h.fed args.envelope (let is = e.0 in omega arith) in
    let at_end : verdict_of args.envelope ≡ verdict.Open = ap verdict_of (sym all) ∙ sym r.read.verdict_is ∙ going in (
      ap (drop done) (todo_bytes args ∙ ap (λ t. todo_head args.uid args.pid ++ taken t) (sym all)) ∙ sym r.read.piece,
      todo_fault args ∙ ap (λ v. fault_after v args.envelope_end) at_end ∙ ap (λ x. Some (end_status x)) e.1,
    )

pub todo_begun : (args : Arguments) → HearsTodo verdict.Open (new_todo args.uid args.pid) args 0
todo_begun args = record { inside = omega arith; read = reads_begun (new_todo args.uid args.pid) (todo_head args.uid args.pid) refl refl refl refl }

todo_front : (args : Arguments) (fed : ℕ) → (rest : List ℕ) × ((intd_text args).bytes ≡ (todo_head args.uid args.pid ++ taken (take fed args.envelope)) ++ rest)
todo_front args fed =
    let head : List ℕ = todo_head args.uid args.pid in
    let front : List ℕ = take fed args.envelope in
    let behind : List ℕ = drop fed args.envelope in
    let w = taken_more limit front behind in (
      w.0,
      todo_bytes args ∙ ap (λ t. head ++ t) (ap taken (sym (take-append-drop fed args.envelope)) ∙ w.1) ∙ sym (append_assoc head (taken front) w.0),
    )

pub todo_next : (v : Verdict) (h : Heard) (args : Arguments) (done : ℕ) → HearsTodo v h args done → IsNext v h.piece (intd_text args) done
todo_next verdict.Open h args done r =
    let w = todo_front args h.fed in
    let known : List ℕ = todo_head args.uid args.pid ++ taken (take h.fed args.envelope) in
    (w.0, ap (drop done) w.1 ∙ drop-append-le done known w.0 r.read.written ∙ ap (λ t. t ++ w.0) (sym r.read.piece))
todo_next verdict.Whole h args done r = r
todo_next (verdict.Faulty status) h args done r = r

-- Whole injectors

-- what asks for a part is open and at a row of that part
pub asked_by : (v : Verdict) (row : Row) (part : Part) → asks_by (is_open v) row ≡ Some part → (v ≡ verdict.Open) × (part_in row ≡ Some part)
asked_by verdict.Open row part e = (refl, e)
asked_by verdict.Whole row part e = absurd (cc)
asked_by (verdict.Faulty status) row part e = absurd (cc)

on_message : (row : Row) (h n : Heard) (args : Arguments) → part_in row ≡ Some Message → ((done : ℕ) → HearsMessage h.verdict h args done → HearsMessage n.verdict n args done)
    → Hears row h args → Hears row n args
on_message (at.Create seq) h n args of on here = on 0 here
on_message (at.LinkMess seq m fd) h n args of on here = on 0 here
on_message (at.UnlinkPid seq m fd) h n args of on here = on 0 here
on_message (at.AppendMess m fd done) h n args of on here = on done here
on_message (at.AppendTodo m fd done) h n args of on here = absurd (cc)
on_message _ h n args of on here = tt

on_todo : (row : Row) (h n : Heard) (args : Arguments) → part_in row ≡ Some Envelope → ((done : ℕ) → HearsTodo h.verdict h args done → HearsTodo n.verdict n args done)
    → Hears row h args → Hears row n args
on_todo (at.Create seq) h n args of on here = absurd (cc)
on_todo (at.LinkMess seq m fd) h n args of on here = absurd (cc)
on_todo (at.UnlinkPid seq m fd) h n args of on here = absurd (cc)
on_todo (at.AppendMess m fd done) h n args of on here = absurd (cc)
on_todo (at.AppendTodo m fd done) h n args of on here = on done here
on_todo _ h n args of on here = tt

-- an injector that holds other bytes of the same texts
rehears : (m : Machine) (n : Heard) (args : Arguments) (past : List Own) → Stands m args past → Hears m.row n args → Stands (record m { heard = n }) args past
rehears m n args past s hears = record { uid = s.uid; pid = s.pid; start = s.start; hears = hears; row = s.row }

pub stands_message : (m : Machine) (n : Heard) (args : Arguments) (past : List Own) (bytes : List ℕ) → asks m ≡ Some Message → Stands m args past → Continues m args bytes
    → n ≡ with_message m.heard bytes → Stands (record m { heard = n }) args past
stands_message m n args past bytes e s g is =
    let w = asked_by m.heard.verdict m.row Message e in
    let on = subst (λ p. ContinuesBy p m.heard.fed args bytes) e g in
    subst (λ h. Stands (record m { heard = h }) args past) (sym is) (rehears m (with_message m.heard bytes) args past s
    (on_message m.row m.heard (with_message m.heard bytes) args w.1 (λ done here. message_fed m.heard args done bytes w.0 here on) s.hears))

pub stands_envelope : (m : Machine) (n : Heard) (args : Arguments) (past : List Own) (bytes : List ℕ) → asks m ≡ Some Envelope → Stands m args past → Continues m args bytes
    → n.fed ≡ m.heard.fed + length bytes → ((done : ℕ) (head read : List ℕ) → Reads m.heard done head read → Reads n done head (read ++ bytes))
    → Stands (record m { heard = n }) args past
stands_envelope m n args past bytes e s g fed reads =
    let w = asked_by m.heard.verdict m.row Envelope e in
    let on = subst (λ p. ContinuesBy p m.heard.fed args bytes) e g in
    rehears m n args past s (on_todo m.row m.heard n args w.1 (λ done here. todo_fed m.heard n args done bytes w.0 here on fed reads) s.hears)

pub stands_message_over : (m : Machine) (n : Heard) (args : Arguments) (past : List Own) (end : InputEnd) → asks m ≡ Some Message → Stands m args past → Ends m args end
    → n ≡ record m.heard { verdict = message_over end } → Stands (record m { heard = n }) args past
stands_message_over m n args past end e s over is =
    let w = asked_by m.heard.verdict m.row Message e in
    let told = subst (λ p. EndsBy p m.heard.fed args end) e over in
    subst (λ h. Stands (record m { heard = h }) args past) (sym is) (rehears m (record m.heard { verdict = message_over end }) args past s
    (on_message m.row m.heard (record m.heard { verdict = message_over end }) args w.1 (λ done here. message_ended m.heard args done end w.0 here told) s.hears))

pub stands_envelope_over : (m : Machine) (n : Heard) (args : Arguments) (past : List Own) (end : InputEnd) → asks m ≡ Some Envelope → Stands m args past → Ends m args end
    → n ≡ record m.heard { verdict = verdict.Faulty (end_status end) } → Stands (record m { heard = n }) args past
stands_envelope_over m n args past end e s over is =
    let w = asked_by m.heard.verdict m.row Envelope e in
    let told = subst (λ p. EndsBy p m.heard.fed args end) e over in
    subst (λ h. Stands (record m { heard = h }) args past) (sym is) (rehears m (record m.heard { verdict = verdict.Faulty (end_status end) }) args past s
    (on_todo m.row m.heard (record m.heard { verdict = verdict.Faulty (end_status end) }) args w.1 (λ done here. todo_ended m.heard args done end w.0 here told) s.hears))

-- no more was fed of a part than it has

message_inside : (v : Verdict) (h : Heard) (args : Arguments) (done : ℕ) → HearsMessage v h args done → v ≡ verdict.Open → h.fed ≤ length args.message
message_inside verdict.Open h args done m e = m.inside
message_inside verdict.Whole h args done m e = absurd (cc)
message_inside (verdict.Faulty status) h args done m e = absurd (cc)

todo_inside : (v : Verdict) (h : Heard) (args : Arguments) (done : ℕ) → HearsTodo v h args done → v ≡ verdict.Open → h.fed ≤ length args.envelope
todo_inside verdict.Open h args done r e = r.inside
todo_inside verdict.Whole h args done r e = absurd (cc)
todo_inside (verdict.Faulty status) h args done r e = absurd (cc)

message_row_inside : (row : Row) (h : Heard) (args : Arguments) → Hears row h args → h.verdict ≡ verdict.Open → part_in row ≡ Some Message → h.fed ≤ length args.message
message_row_inside (at.Create seq) h args here going of = message_inside h.verdict h args 0 here going
message_row_inside (at.LinkMess seq n fd) h args here going of = message_inside h.verdict h args 0 here going
message_row_inside (at.UnlinkPid seq n fd) h args here going of = message_inside h.verdict h args 0 here going
message_row_inside (at.AppendMess n fd done) h args here going of = message_inside h.verdict h args done here going
message_row_inside _ h args here going of = absurd (cc)

todo_row_inside : (row : Row) (h : Heard) (args : Arguments) → Hears row h args → h.verdict ≡ verdict.Open → part_in row ≡ Some Envelope → h.fed ≤ length args.envelope
todo_row_inside (at.AppendTodo n fd done) h args here going of = todo_inside h.verdict h args done here going
todo_row_inside _ h args here going of = absurd (cc)

pub fed_inside : (m : Machine) (args : Arguments) (past : List Own) → Stands m args past
    → (asks m ≡ Some Message → m.heard.fed ≤ length args.message) × (asks m ≡ Some Envelope → m.heard.fed ≤ length args.envelope)
fed_inside m args past s = (
  λ e. let w = asked_by m.heard.verdict m.row Message e in message_row_inside m.row m.heard args s.hears w.0 w.1,
  λ e. let w = asked_by m.heard.verdict m.row Envelope e in todo_row_inside m.row m.heard args s.hears w.0 w.1,
)
