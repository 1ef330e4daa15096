-- The sender of a message, in its info file.
use Rattle.std.proofs.Common.{◌≡◌, ◌≢◌, ℕ, ◌+◌, ◌<◌, List, [], ◌∷◌, ◌++◌, length, take, cond, Bool, false, not, Option, Some, None, refl, ap, ◌∙◌, arith, length-append, slice_get}
use Rattle.std.specs.Prelude.{nat_lt, position}
use Rattle.std.specs.List.{position_or_len}
use Rattle.std.proofs.lemmas.Bool.{lt-ltb, ne_eqb}
use Rattle.std.proofs.lemmas.List.{take_at}
use Rattle.std.proofs.lemmas.List.Elements.{All-head, All-tail}
use Rattle.envelope_records.specs.Envelope.{HasEnvelope, Reading, read_envelope}
use Rattle.envelope_records.specs.Envelope.Reading.{Whole, Open, Broken}
use Rattle.mail_bytes.specs.Texts.{HasNoNul}
use Rattle.envelope_records.proofs.Envelopes.{sound_as}
use Rattle.queue_inject.specs.declared.injection.Arguments.{Arguments}
use Rattle.queue_inject.specs.declared.injection.InputEnd.{InputEnd}
use Rattle.queue_inject.specs.Texts.{envelope_of, envelope_text, intd_text, limit}
use Rattle.queue_paths.specs.Names.Part.{Info}
use Rattle.queue_paths.specs.Parts.{in_todo}
use Rattle.send_parts.specs.Files.{before_nul, cut_at, is_nul, sender_in}
use Rattle.todo_pass.specs.Sorting.{info_text}
use Rattle.queue_law.specs.Books.{Injection}
use Rattle.queue_law.specs.Numbers.{Queue, Entry, About, about, IsPreprocessed, Phase, Sound}
use Rattle.queue_law.specs.Numbers.Phase.{Free, Queued, Sorted, Finished}
use Rattle.queue_law.specs.Routes.{info_of, sender_of, sender_read}
use Rattle.program_law.specs.Sender.Knows.{IsSettledIn}
use Rattle.program_law.specs.Sender.Rows.{IsLearned}

-- A sender that a valid envelope tells has no NUL

plain_in : (args : Arguments) (r : Reading) → read_envelope (take limit args.envelope) ≡ r → (end : InputEnd) (next : Option ℕ) → (envelope_text r end next).fault ≡ None
    → HasNoNul (sender_read r)
plain_in args (Whole sender recipients) is end next none =
    let whole : HasEnvelope (take limit args.envelope) sender recipients = sound_as (take limit args.envelope) (Whole sender recipients) is in
    whole.whole.from.plain
plain_in args (Open stage) is end next none = absurd (cc)
plain_in args (Broken before fault) is end next none = absurd (cc)

pub plain_sender : (args : Arguments) → (intd_text args).fault ≡ None → HasNoNul (sender_of args)
unfolding intd_text envelope_of sender_of
plain_sender args none = plain_in args (read_envelope (take limit args.envelope)) refl args.envelope_end (slice_get args.envelope limit) none

-- What stands before the first NUL

one_more : (b : ℕ) (s : List ℕ) → 1 + length s ≡ length (b ∷ s)
one_more b s = omega arith

pub nul_place : (s rest : List ℕ) → HasNoNul s → position_or_len is_nul (s ++ 0 ∷ rest) ≡ length s
nul_place [] rest h = refl
nul_place (b ∷ s) rest h =
    let off : is_nul b ≡ false = ne_eqb b 0 (All-head (λ (x : ℕ). x ≢ 0) b s h) in
    ap (λ t. cond (not t) (1 + position_or_len is_nul (s ++ 0 ∷ rest)) 0) off
    ∙ ap (λ k. 1 + k) (nul_place s rest (All-tail (λ (x : ℕ). x ≢ 0) b s h))
    ∙ one_more b s

before_first : (s : List ℕ) → HasNoNul s → before_nul (s ++ 0 ∷ []) ≡ s
before_first s h =
    let at = nul_place s [] h in
    let long = length-append s (0 ∷ []) in
    let lt : length s < length (s ++ 0 ∷ []) = omega (arith, long) in
    let found : position is_nul (s ++ 0 ∷ []) ≡ Some (length s) =
    ap (λ (k : ℕ). cond (nat_lt k (length (s ++ 0 ∷ []))) (Some k) None) at
    ∙ ap (λ (b : Bool). cond b (Some (length s)) None) (lt-ltb (length s) (length (s ++ 0 ∷ [])) lt) in
    ap (λ (o : Option ℕ). cut_at o (s ++ 0 ∷ [])) found ∙ take_at s (0 ∷ []) (length s) refl

told_sender : (s : List ℕ) → HasNoNul s → sender_in (info_text s) ≡ s
told_sender s h = before_first s h

-- A number with an info file and no todo file

pub sorted_of : (w : About) → Phase w → in_todo w.parts ≡ None → (info : Entry) → w.parts Info ≡ Some info → IsPreprocessed w
sorted_of w (Free h) gone info there = let none = h.unsorted Info refl in absurd (cc)
sorted_of w (Queued h) gone info there = let is = h.todo_there in absurd (cc)
sorted_of w (Sorted h) gone info there = h
sorted_of w (Finished h) gone info there = let none = h.unsorted Info refl in absurd (cc)

pub settled_of : (w : About) → IsPreprocessed w → IsSettledIn w
settled_of w h = record { no_todo = h.no_todo; info = h.info; info_there = h.info_there; injection = h.taken.injection; lives = h.taken.lives }

same_entry : (o : Option Entry) (x y : Entry) → o ≡ Some x → o ≡ Some y → x ≡ y
same_entry o x y e f = cc

same_injection : (o : Option Injection) (x y : Injection) → o ≡ Some x → o ≡ Some y → x ≡ y
same_injection o x y e f = cc

-- what was read of its info file tells its sender
pub told_of : (q : Queue) (n : ℕ) (read : List ℕ) → Sound q → (l : IsLearned q n read) → sender_in read ≡ sender_of l.sorted.injection.args
told_of q n read G l =
    let pre = sorted_of (about q n) (G.fine n) l.sorted.no_todo l.sorted.info l.sorted.info_there in
    let args = pre.taken.injection.args in
    let file : l.text.file ≡ pre.info = same_entry ((about q n).parts Info) l.text.file pre.info l.text.there pre.info_there in
    let reads : read ≡ info_of args = l.text.text ∙ ap (λ (y : Entry). y.file.bytes) file ∙ pre.text.holds in
    let own : pre.taken.injection ≡ l.sorted.injection = same_injection (about q n).living pre.taken.injection l.sorted.injection pre.taken.lives l.sorted.lives in
    ap sender_in reads ∙ told_sender (sender_of args) (plain_sender args pre.taken.valid.envelope) ∙ ap (λ (i : Injection). sender_of i.args) own
