-- That todo files are todo texts where nothing fails.
use Rattle.std.proofs.Common.{◌≡◌, ℕ, ◌<◌, ◌^◌, List, ◌++◌, take, Option, None, refl, sym, ap, ◌∙◌}
use Rattle.std.specs.Prelude.{Err, Ok, nat_lt, slice_get}
use Rattle.std.proofs.lemmas.Bool.{and_parts, ltb-true}
use Rattle.address_rules.specs.declared.controls.Controls.{Controls}
use Rattle.envelope_records.specs.Envelope.{HasEnvelope, Reading, read_envelope, todo_head, todo_text}
use Rattle.envelope_records.proofs.Envelopes.{sound_as}
use Rattle.envelope_records.specs.Envelope.Reading.{Broken, Open, Whole}
use Rattle.queue_inject.specs.declared.injection.Arguments.{Arguments}
use Rattle.queue_inject.specs.declared.injection.InputEnd.{InputEnd}
use Rattle.queue_inject.specs.Texts.{envelope_of, envelope_text, intd_text, limit}
use Rattle.todo_pass.proofs.Todos.{read_if}
use Rattle.todo_pass.specs.Sorting.{sort_todo, sorted_by}
use Rattle.todo_pass.specs.Todo.{IsTodo, Todo, read_todo}
use Rattle.settle_law.specs.inside.Texts.{TodoTextsAreRead}
use Rattle.settle_law.proofs.SystemNumbers.{have_system_numbers}

record IsRead (args : Arguments) : Type 0 where
  sender : List ℕ
  recipients : List (List ℕ)
  read : read_envelope (take limit args.envelope) ≡ Whole sender recipients

whole_read : (args : Arguments) (r : Reading) → read_envelope (take limit args.envelope) ≡ r → (end : InputEnd) (next : Option ℕ) → (envelope_text r end next).fault ≡ None → IsRead args
whole_read args (Whole sender recipients) is end next none = record { sender = sender; recipients = recipients; read = is }
whole_read args (Open stage) is end next none = absurd (cc)
whole_read args (Broken before fault) is end next none = absurd (cc)

valid_read : (args : Arguments) → (intd_text args).fault ≡ None → IsRead args
unfolding intd_text envelope_of
valid_read args none = whole_read args (read_envelope (take limit args.envelope)) refl args.envelope_end (slice_get args.envelope limit) none

text_is : (args : Arguments) (w : IsRead args) → (intd_text args).bytes ≡ todo_text args.uid args.pid w.sender w.recipients
unfolding intd_text envelope_of todo_text
text_is args w = ap (λ (r : Reading). todo_head args.uid args.pid ++ (envelope_text r args.envelope_end (slice_get args.envelope limit)).bytes) w.read

abbrev todo_of : (args : Arguments) (w : IsRead args) → Todo
todo_of args w = record { uid = args.uid; pid = args.pid; sender = w.sender; recipients = w.recipients }

is_todo : (args : Arguments) (w : IsRead args) → args.uid < 2 ^ 32 → args.pid < 2 ^ 32 → IsTodo (intd_text args).bytes (todo_of args w)
is_todo args w uid pid =
    let whole : HasEnvelope (take limit args.envelope) w.sender w.recipients = sound_as (take limit args.envelope) (Whole w.sender w.recipients) w.read in
    record { text = text_is args w; uid_fits = uid; pid_fits = pid; from = whole.whole.from; to = whole.whole.to }

said : (controls : Controls) (bytes : List ℕ) (it : Todo) → read_todo bytes ≡ Ok it → (place : ℕ) → sort_todo controls bytes ≡ Err place → ⊥
unfolding sort_todo
said controls bytes it read place bad = let both = sym (ap (sorted_by controls) read) ∙ bad in cc

pub todo_texts_are_read : TodoTextsAreRead
todo_texts_are_read d h legal well n i is valid controls place bad =
    let args : Arguments = i.args in
    let numbers = and_parts (nat_lt args.uid (2 ^ 32)) (nat_lt args.pid (2 ^ 32)) (have_system_numbers d h legal well n i is) in
    let w = valid_read args valid.envelope in
    said controls (intd_text args).bytes (todo_of args w)
    (read_if (intd_text args).bytes (todo_of args w) (is_todo args w (ltb-true args.uid (2 ^ 32) numbers.0) (ltb-true args.pid (2 ^ 32) numbers.1))) place bad
