-- The text of an info file is read as one.
use Rattle.std.proofs.Common.{◌≡◌, ◌≢◌, ℕ, ◌+◌, ◌<◌, List, [], ◌∷◌, ◌++◌, length, cond, Bool, true, Option, Some, None, eq-eqb, refl, ap, ◌∙◌, arith, length-append}
use Rattle.std.specs.Prelude.{nat_lt, position, ◌==◌}
use Rattle.std.proofs.lemmas.Bool.{lt-ltb}
use Rattle.std.proofs.lemmas.List.{take_at}
use Rattle.std.proofs.lemmas.List.Elements.{All-cons}
use Rattle.mail_bytes.specs.Texts.{HasNoNul}
use Rattle.program_law.proofs.Sender.Senders.{nul_place, plain_sender}
use Rattle.queue_inject.specs.Texts.{intd_text}
use Rattle.queue_inject.specs.declared.injection.Arguments.{Arguments}
use Rattle.queue_law.specs.Routes.{info_of, sender_of}
use Rattle.send_parts.specs.Files.{before_nul, cut_at, is_info, is_nul}
use Rattle.todo_pass.specs.Sorting.{info_text}

before_first : (s : List ℕ) → HasNoNul s → before_nul (s ++ 0 ∷ []) ≡ s
before_first s h =
    let at = nul_place s [] h in
    let long = length-append s (0 ∷ []) in
    let lt : length s < length (s ++ 0 ∷ []) = omega (arith, long) in
    let found : position is_nul (s ++ 0 ∷ []) ≡ Some (length s) =
    ap (λ (k : ℕ). cond (nat_lt k (length (s ++ 0 ∷ []))) (Some k) None) at
    ∙ ap (λ (b : Bool). cond b (Some (length s)) None) (lt-ltb (length s) (length (s ++ 0 ∷ [])) lt) in
    ap (λ (o : Option ℕ). cut_at o (s ++ 0 ∷ [])) found ∙ take_at s (0 ∷ []) (length s) refl

is_text : (s : List ℕ) → HasNoNul s → is_info (info_text s) ≡ true
is_text s plain =
    let long = length-append (70 ∷ s) (0 ∷ []) in
    let first : ◌≢◌ {A = ℕ} 70 0 = (λ e. cc) in
    ap (λ (t : List ℕ). length t + 1 == length (info_text s)) (before_first (70 ∷ s) (All-cons (λ (x : ℕ). x ≢ 0) 70 s first plain))
    ∙ eq-eqb (length (70 ∷ s) + 1) (length (info_text s)) (omega (arith, long))

pub info_reads : (args : Arguments) → (intd_text args).fault ≡ None → is_info (info_of args) ≡ true
info_reads args none = is_text (sender_of args) (plain_sender args none)
