-- What a sink took of a line.
use Rattle.std.proofs.Common.{◌≡◌, ℕ, List, [], ◌∷◌, ◌++◌, take, drop, Option, inl, inr, refl, sym}
use Rattle.std.proofs.lemmas.List.{append-nil, take-append-drop}
use Rattle.mail_bytes.specs.Told.{Meets}
use Rattle.outside.specs.Streams.{Gives}
use Rattle.outside.specs.declared.sink.Gave.{Gave}
use Rattle.outside.specs.declared.sink.Gave.TheVariants as gave
use Rattle.mem_fs.proofs.InTurn.{told_weaker}
use Rattle.scenario.specs.Text.{IsTakenText}

-- what a sink took of a line
pub line_taken : (old new : Option (List ℕ)) (line : List ℕ) (did : Gave) (Failed : Type 0) → (did ≡ gave.Failed → Failed) → Meets old new (Gives did line) → Meets old new (λ x y. (text : List ℕ) × IsTakenText line text Failed × (y ≡ x ++ text))
line_taken old new line gave.Done Failed rose told = told_weaker old new (λ x y h. (line, record { rest = []; split = sym (append-nil line); all = inl refl }, h)) told
line_taken old new line gave.Failed Failed rose told =
    told_weaker old new (λ x y h. (take h.0 line, record { rest = drop h.0 line; split = sym (take-append-drop h.0 line); all = inr (rose refl) }, h.2)) told

-- two texts together are empty only if each is
pub append_empty : (one other : List ℕ) → one ++ other ≡ [] → (one ≡ []) × (other ≡ [])
append_empty [] other e = (refl, e)
append_empty (b ∷ one) other e = absurd (cc)
