-- Words of `queue` that aren't written out.
use Rattle.std.proofs.Common.{◌≡◌, ◌^◌, ◌<◌, ℕ, Bool, true, false, List, [], ◌∷◌, Option, Some, None, Decides, bytes_eq, cond, codes, fold, slice_get, option_and_then, option_map, refl, ap, ◌∙◌, arith}
use Rattle.clap.specs.Kinds.{Kinds}
use Rattle.clap.specs.Walk.{Text, Walk, finished, is_empty, nothing_held, walked}
use Rattle.clap.specs.Walk.Waiting.{idle, option}
use Rattle.clap.specs.Simple.{Shape, built}
use Rattle.clap.specs.Faults.{fault_of, walk_fault}
use Rattle.clap.proofs.OnLiterals.{clap_on_literals}
use Rattle.clap.specs.Words.{matches_of}
use Rattle.std.specs.List.{AllByRecursion}
use Rattle.std.proofs.lemmas.Bool.{lt-ltb}
use Rattle.std.proofs.lemmas.Slice.Eq.{bytes_eq-Decides}
use Rattle.mail_bytes.specs.Decimal.{IsDigit, digits}
use Rattle.mail_bytes.proofs.Digits.{digits_only, number_of-digits}
use Rattle.command_words.specs.declared.command.Command.TheVariants.{Queue}
use Rattle.command_words.specs.declared.command.QueueWords.{QueueWords}
use Rattle.command_words.specs.Lines.{queue_line}
use Rattle.command_words.specs.Numbers.{as_u32}
use Rattle.command_words.specs.Reads.{IsNoOption, Reads, command_of, queue_words, told, told_by}
use Rattle.command_words.proofs.Steps.{Goes, IsPlain, at, dash_is_plain, ending, goes_nowhere, goes_on, goes_plain, holding, plain_from, row, start}

-- the command of `queue`, as clap builds it
abbrev pub line : Shape
line = (built queue_line).top

pub fault_is : (name : Text) (words : List Text) → fault_of queue_line (name ∷ words) ≡ ending queue_line (walk_fault line [] start words) (fold (walked line.rules []) start words)
fault_is name words = refl

-- ENV and DIR
pub goes_two : (env dir : Text) (words : List Text) (to : Walk) → IsPlain env → IsPlain dir → Goes line (at (holding (row (codes "env") env ∷ []) (codes "dir") dir) idle 3) words to → Goes line start (env ∷ dir ∷ words) to
unfolding clap_on_literals
goes_two env dir words to e d rest =
    goes_plain line nothing_held idle 1 (at (holding [] (codes "env") env) idle 2) to env (dir ∷ words) refl e refl refl
    (goes_plain line (holding [] (codes "env") env) idle 2 _ to dir words refl d refl refl rest)

-- where a parse goes over the words, and nothing fails, they are `queue` with what clap found
pub queue_goes : (words : List Text) (to : Walk) (queue : QueueWords) → Goes line start words to → ending queue_line [] to ≡ [] → told_by (finished line.rules to.held) ≡ Some queue → Reads (codes "queue" ∷ words) (Queue queue)
unfolding command_of queue_words
queue_goes words to queue goes fine told =
    let name = codes "queue" in
    let fault : fault_of queue_line (name ∷ words) ≡ [] =
    fault_is name words ∙ ap (λ kinds. ending queue_line kinds (fold (walked line.rules []) start words)) goes.fine ∙ ap (λ w. ending queue_line [] w) goes.ends ∙ fine in
    let read : told_by (matches_of queue_line (name ∷ words)) ≡ Some queue = ap (λ (w : Walk). told_by (finished line.rules w.held)) goes.ends ∙ told in
    ap (λ (kinds : Kinds). cond (is_empty kinds) (option_map Queue (told_by (matches_of queue_line (name ∷ words)))) None) fault ∙ ap (option_map Queue) read

not_dash : (word : Text) → IsNoOption word → bytes_eq word (codes "-") ≡ false
not_dash word other = apart (bytes_eq word (codes "-")) word (bytes_eq-Decides word (codes "-")) other
  where
    apart : (b : Bool) (w : Text) → Decides b (w ≡ codes "-") → IsNoOption w → b ≡ false
    apart true w is off = absurd (off (ap (λ t. slice_get t 0) (is.0 refl)))
    apart false w is off = refl

-- a file and a directory
pub file_words : (env dir : Text) → IsNoOption env → IsNoOption dir → Reads (codes "queue" ∷ env ∷ dir ∷ []) (Queue (record { env = Some env; dir = dir; uid = 0; bounce = false }))
unfolding clap_on_literals
file_words env dir e d =
    let none : Option Text = None in
    let queue : Option Text → QueueWords = λ place. record { env = place; dir = dir; uid = 0; bounce = false } in
    let told : told_by (finished line.rules (holding (row (codes "env") env ∷ []) (codes "dir") dir)) ≡ Some (queue (Some env)) = ap (λ b. Some (queue (cond b none (Some env)))) (not_dash env e) in
    queue_goes (env ∷ dir ∷ []) (at (holding (row (codes "env") env ∷ []) (codes "dir") dir) idle 3) (queue (Some env)) (goes_two env dir [] _ (plain_from env e) (plain_from dir d) (goes_nowhere line _)) refl told

-- what a flag leaves
abbrev after_bounce : Text → Walk
after_bounce dir =
    at (record { rows = row (codes "env") (codes "-") ∷ row (codes "dir") dir ∷ row (codes "bounce") (codes "true") ∷ []; pending = None; skip = 0 }) idle 3

-- a bounce
pub bounce_words : (dir : Text) → IsNoOption dir → Reads (codes "queue" ∷ codes "-" ∷ dir ∷ codes "--bounce" ∷ []) (Queue (record { env = None; dir = dir; uid = 0; bounce = true }))
unfolding clap_on_literals
bounce_words dir d =
    queue_goes (codes "-" ∷ dir ∷ codes "--bounce" ∷ []) (after_bounce dir) (record { env = None; dir = dir; uid = 0; bounce = true })
    (goes_two (codes "-") dir (codes "--bounce" ∷ []) (after_bounce dir) dash_is_plain (plain_from dir d) (goes_on line _ (after_bounce dir) (after_bounce dir) (codes "--bounce") [] refl refl (goes_nowhere line (after_bounce dir)))) refl refl

-- what an option leaves, before its value and after it
abbrev before_uid : Text → Walk
before_uid dir = at (record { rows = row (codes "env") (codes "-") ∷ row (codes "dir") dir ∷ []; pending = Some (codes "uid", []); skip = 0 }) (option (codes "uid")) 3

abbrev after_uid : Text → Text → Walk
after_uid dir text = at (holding (row (codes "env") (codes "-") ∷ row (codes "dir") dir ∷ []) (codes "uid") text) idle 3

pub no_hyphen : (text : Text) → AllByRecursion IsDigit text → IsNoOption text
no_hyphen [] digit e = absurd (cc)
no_hyphen (x ∷ xs) digit e = let same : x ≡ 45 = cc in absurd (omega (arith, digit.0.0))

-- a forward
pub forward_words : (dir : Text) (n : ℕ) → IsNoOption dir → n < 2 ^ 32 → Reads (codes "queue" ∷ codes "-" ∷ dir ∷ codes "--uid" ∷ digits n ∷ []) (Queue (record { env = None; dir = dir; uid = n; bounce = false }))
unfolding clap_on_literals
forward_words dir n d fits =
    let text = digits n in
    let queue : Option ℕ → Option QueueWords = λ uid. told (Some (codes "-")) (Some dir) uid false in
    let read : told_by (finished line.rules (after_uid dir text).held) ≡ queue (Some n) =
    ap (λ o. queue (option_and_then as_u32 o)) (number_of-digits n (omega (arith, fits))) ∙ ap (λ b. queue (cond b (Some n) None)) (lt-ltb n (2 ^ 32) fits) in
    queue_goes (codes "-" ∷ dir ∷ codes "--uid" ∷ text ∷ []) (after_uid dir text) (record { env = None; dir = dir; uid = n; bounce = false })
    (goes_two (codes "-") dir (codes "--uid" ∷ text ∷ []) (after_uid dir text) dash_is_plain (plain_from dir d)
    (goes_on line _ (before_uid dir) (after_uid dir text) (codes "--uid") (text ∷ []) refl refl
    (goes_plain line _ (option (codes "uid")) 3 (after_uid dir text) (after_uid dir text) text [] refl (plain_from text (no_hyphen text (digits_only n))) refl refl (goes_nowhere line (after_uid dir text))))) refl read
