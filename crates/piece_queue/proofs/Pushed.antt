-- What a reader has pushed.
use Rattle.std.proofs.Common.{◌≡◌, ℕ, ◌+◌, Bool, true, false, true≢false, List, [], ◌∷◌, ◌++◌, length, map, sym, refl, ap, ◌∙◌, subst, append_assoc, arith, length-append}
use Rattle.std.specs.Prelude.{MatchBool, Option, Some, None}
use Rattle.std.proofs.lemmas.List.{append-nil, map-append}
use Rattle.std.proofs.lemmas.Option.{none-some}
use Rattle.mail_bytes.specs.Told.{Records}
use Rattle.piece_queue.specs.declared.piece.Piece.{Piece}
use Rattle.piece_queue.specs.declared.piece.Brought.TheVariants as came
use Rattle.piece_queue.specs.declared.hand.Hand.{Hand}
use Rattle.piece_queue.specs.Pieces.{FitsRoom, HasLast, is_last}
use Rattle.piece_queue.specs.Rule.{FailsAtOnce, Follows, given_on, reader}
use Rattle.piece_queue.specs.Readings.{HasPushed, MayRead, Reading, RecordsAll, reading_of}
use Rattle.piece_queue.proofs.Chans.{last_snoc, none_snoc, numbered_snoc}

records_snoc : (before mid now : Option (List Reading)) (xs : List Reading) (x : Reading) → RecordsAll before mid xs → Records mid now x → RecordsAll before now (xs ++ x ∷ [])
records_snoc (Some b) (Some m) (Some n) xs x all one = one ∙ (ap (λ l. l ++ x ∷ []) all ∙ append_assoc b xs (x ∷ []))
records_snoc (Some b) None (Some n) xs x all one = absurd one
records_snoc None (Some m) (Some n) xs x all one = absurd all
records_snoc None None (Some n) xs x all one = absurd one
records_snoc (Some b) mid None xs x all one = tt
records_snoc None mid None xs x all one = tt

-- no reading was pushed yet
pub nothing : (told : Option (List Reading)) → RecordsAll told told []
nothing (Some l) = sym (append-nil l)
nothing None = tt

-- one reading more was pushed
pub pushes : (c n : ℕ) (v w : Hand) (before mid now : Option (List Reading)) (p : Piece) → MayRead c n v → w ≡ given_on v p → p.number ≡ n → Records mid now (reading_of p)
    → HasPushed c v before mid → HasPushed c w before now
pushes c n v w before mid now p may on number told had = subst (λ (u : Hand). HasPushed c u before now) (sym on) (record {
  is_reader = ap (λ (u : Hand). given_on u p) had.is_reader;
  numbered = numbered_snoc v.sent p had.numbered may.unended (number ∙ sym may.number);
  told = subst (RecordsAll before now) (sym (map-append reading_of v.sent (p ∷ []))) (records_snoc before mid now (map reading_of v.sent) (reading_of p) had.told told);
})

-- it was the last one, or there may be a next
pub ends_or_not : (c n : ℕ) (v w : Hand) (p : Piece) (b : Bool) → MayRead c n v → w ≡ given_on v p → b ≡ is_last p → MatchBool b (HasLast w.sent) (MayRead c (n + 1) w)
ends_or_not c n v w p true may on is = subst (λ (u : Hand). HasLast u.sent) (sym on) (last_snoc v.sent p (sym is))
ends_or_not c n v w p false may on is = subst (λ (u : Hand). MayRead c (n + 1) u) (sym on) (record {
  reads = may.reads;
  chan = may.chan;
  number = omega (arith, length-append v.sent (p ∷ []), may.number);
  unended = none_snoc v.sent p may.unended (sym is);
})

-- the two cases of such an answer
pub in_true : (b : Bool) (X Y : Type 0) → MatchBool b X Y → b ≡ true → X
in_true true X Y m e = m
in_true false X Y m e = absurd (true≢false (sym e))

pub in_false : (b : Bool) (X Y : Type 0) → MatchBool b X Y → b ≡ false → Y
in_false true X Y m e = absurd (true≢false e)
in_false false X Y m e = m

-- a reader that has pushed nothing yet
pub none_pushed : (c : ℕ) (v : Hand) (told : Option (List Reading)) → v ≡ reader c [] → HasPushed c v told told × MayRead c 0 v
none_pushed c v told is = subst (λ (u : Hand). HasPushed c u told told × MayRead c 0 u) (sym is) (
  record { is_reader = refl; numbered = λ k x e. absurd (none-some x e); told = nothing told },
  record { reads = refl; chan = refl; number = refl; unended = λ k x e. absurd (none-some x e) },
)

-- the failure of a channel of which nothing was pushed may be pushed, and is then its only piece
pub fails_first : (c : ℕ) (v : Hand) (p : Piece) → v ≡ reader c [] → p.chan ≡ c → p.number ≡ 0 → FitsRoom p.brought → Follows v p
fails_first c v p is chan number fits = subst (λ (u : Hand). Follows u p) (sym is) (record { chan = chan; number = number; unended = λ k x e. absurd (none-some x e); fits = fits })

pub fails_so : (c : ℕ) (v w : Hand) (p : Piece) → v ≡ reader c [] → w ≡ given_on v p → p.chan ≡ c → p.number ≡ 0 → p.brought ≡ came.Failed → FailsAtOnce c true w
fails_so c v w p is on chan number what = (p, on ∙ ap (λ (u : Hand). given_on u p) is, chan, number, what)
