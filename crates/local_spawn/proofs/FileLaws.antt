-- A file has one reading.
use Rattle.std.proofs.Common.{◌≡◌, ◌≢◌, ℕ, ◌+◌, List, [], ◌∷◌, ◌++◌, length, refl, sym, ap, ◌∙◌, subst, ⊎_elim, append_assoc}
use Rattle.std.specs.Prelude.{All}
use Rattle.std.specs.List.{AllByRecursion}
use Rattle.std.proofs.lemmas.List.Elements.{All-head, All-tail, recursion_from_All}
use Rattle.local_spawn.specs.declared.assign.Assignment.{Assignment}
use Rattle.local_spawn.specs.Fields.{IsAssignment, line_of}
use Rattle.local_spawn.specs.Assign.{Comes, HasNoDot, HasNoNewline, IsBadLine, IsFile, IsFirstLine, full_line, lines_of}
use Rattle.local_spawn.specs.Assign.IsFirstLine.{IsEnded, IsLast}
use Rattle.local_spawn.proofs.FieldLemmas.{dot_is_none, line_lacks, same_line}

abbrev Lacks : List ℕ → Type 0
Lacks text = AllByRecursion (λ b. b ≢ 10) text

heads : (a b : ℕ) (x y : List ℕ) → ◌≡◌ {A = List ℕ} (a ∷ x) (b ∷ y) → a ≡ b
heads a b x y e = cc

tails : (a b : ℕ) (x y : List ℕ) → ◌≡◌ {A = List ℕ} (a ∷ x) (b ∷ y) → x ≡ y
tails a b x y e = cc

both : (a b : ℕ) (x y : List ℕ) → a ≡ b → x ≡ y → ◌≡◌ {A = List ℕ} (a ∷ x) (b ∷ y)
both a b x y e f = cc

-- A line before a newline

cut : (x y r s : List ℕ) → Lacks x → Lacks y → x ++ 10 ∷ r ≡ y ++ 10 ∷ s → (x ≡ y) × (r ≡ s)
cut [] [] r s hx hy e = (refl, tails 10 10 r s e)
cut [] (b ∷ y) r s hx hy e = absurd (hy.0 (sym (heads 10 b r (y ++ 10 ∷ s) e)))
cut (b ∷ x) [] r s hx hy e = absurd (hx.0 (heads b 10 (x ++ 10 ∷ r) s e))
cut (b ∷ x) (d ∷ y) r s hx hy e =
    let w = cut x y r s hx.1 hy.1 (tails b d (x ++ 10 ∷ r) (y ++ 10 ∷ s) e) in
    (both b d x y (heads b d (x ++ 10 ∷ r) (y ++ 10 ∷ s) e) w.0, w.1)

-- a text with a newline isn't one without
no_newline : (x y r : List ℕ) → Lacks x → x ≢ y ++ 10 ∷ r
no_newline [] [] r h e = absurd (cc)
no_newline [] (b ∷ y) r h e = absurd (cc)
no_newline (b ∷ x) [] r h e = h.0 (heads b 10 x r e)
no_newline (b ∷ x) (d ∷ y) r h e = no_newline x y r h.1 (tails b d x (y ++ 10 ∷ r) e)

plain : (text : List ℕ) → HasNoNewline text → Lacks text
plain text h = recursion_from_All (λ b. b ≢ 10) text h

-- a text has one first line
one_line : (text line other after next : List ℕ) → IsFirstLine text line after → IsFirstLine text other next → line ≡ other
one_line text line other after next (IsEnded p e) (IsEnded q f) = (cut line other after next (plain line p) (plain other q) (sym e ∙ f)).0
one_line text line other after next (IsEnded p e) (IsLast q some f end) = absurd (no_newline other line after (plain other q) (sym f ∙ e))
one_line text line other after next (IsLast p some e end) (IsEnded q f) = absurd (no_newline line other next (plain line p) (sym e ∙ f))
one_line text line other after next (IsLast p some e end) (IsLast q more f stop) = sym e ∙ f

-- the line of an assignment, with its newline, is a text's first line
first_is : (a : Assignment) (rest line after : List ℕ) → IsAssignment a → IsFirstLine (full_line a ++ rest) line after → line ≡ line_of a
first_is a rest line after h (IsEnded p e) = sym (cut (line_of a) line rest after (line_lacks a h) (plain line p) (sym (append_assoc (line_of a) (10 ∷ []) rest) ∙ e)).0
first_is a rest line after h (IsLast p some e end) = absurd (no_newline line (line_of a) rest (plain line p) (sym e ∙ append_assoc (line_of a) (10 ∷ []) rest))

-- a line that no assignment has
abbrev IsOther : List ℕ → Type 0
IsOther line = (a : Assignment) → IsAssignment a → line ≢ line_of a

record SameLine (assignments others : List Assignment) (line other : List ℕ) : Type 0 where
  all : assignments ≡ others
  next : line ≡ other

more_alike : (a b : Assignment) (assignments others : List Assignment) (line other : List ℕ) → a ≡ b → SameLine assignments others line other → SameLine (a ∷ assignments) (b ∷ others) line other
more_alike a b assignments others line other e h = record { all = both_alike e h.all; next = h.next }
  where
    both_alike : a ≡ b → assignments ≡ others → ◌≡◌ {A = List Assignment} (a ∷ assignments) (b ∷ others)
    both_alike e f = cc

-- after the same lines comes the same line
alike : (assignments others : List Assignment) (rest more line other after next : List ℕ) → All IsAssignment assignments → All IsAssignment others
    → lines_of assignments ++ rest ≡ lines_of others ++ more → IsFirstLine rest line after → IsFirstLine more other next → IsOther line → IsOther other
    → SameLine assignments others line other
alike [] [] rest more line other after next h k e first second isnt nor =
    record { all = refl; next = one_line rest line other after next first (subst (λ t. IsFirstLine t other next) (sym e) second) }
alike [] (b ∷ others) rest more line other after next h k e first second isnt nor =
    let good = All-head IsAssignment b others k in
    absurd (isnt b good (first_is b (lines_of others ++ more) line after good (subst (λ t. IsFirstLine t line after) (e ∙ append_assoc (full_line b) (lines_of others) more) first)))
alike (a ∷ assignments) [] rest more line other after next h k e first second isnt nor =
    let good = All-head IsAssignment a assignments h in
    absurd (nor a good (first_is a (lines_of assignments ++ rest) other next good (subst (λ t. IsFirstLine t other next) (sym e ∙ append_assoc (full_line a) (lines_of assignments) rest) second)))
alike (a ∷ assignments) (b ∷ others) rest more line other after next h k e first second isnt nor =
    let good = All-head IsAssignment a assignments h in
    let better = All-head IsAssignment b others k in
    let split = cut (line_of a) (line_of b) (lines_of assignments ++ rest) (lines_of others ++ more) (line_lacks a good) (line_lacks b better) (opened a assignments rest ∙ e ∙ sym (opened b others more)) in
    more_alike a b assignments others line other (same_line a b good better split.0)
    (alike assignments others rest more line other after next (All-tail IsAssignment a assignments h) (All-tail IsAssignment b others k) split.1 first second isnt nor)
  where
    opened : (x : Assignment) (xs : List Assignment) (tail : List ℕ) → line_of x ++ 10 ∷ (lines_of xs ++ tail) ≡ lines_of (x ∷ xs) ++ tail
    opened x xs tail = sym (append_assoc (full_line x) (lines_of xs) tail ∙ append_assoc (line_of x) (10 ∷ []) (lines_of xs ++ tail))

one_way : (bytes : List ℕ) (assignments others : List Assignment) (line other : List ℕ) → Comes bytes assignments line → Comes bytes others other → IsOther line → IsOther other
    → SameLine assignments others line other
one_way bytes assignments others line other h k isnt nor =
    alike assignments others h.rest k.rest line other h.after k.after h.good k.good (sym h.text ∙ k.text) h.next k.next isnt nor

dot_other : IsOther (46 ∷ [])
dot_other a h = dot_is_none a

pub one_file : (bytes : List ℕ) (lines others : List Assignment) → IsFile bytes lines → IsFile bytes others → lines ≡ others
one_file bytes lines others h k = (one_way bytes lines others (46 ∷ []) (46 ∷ []) h k dot_other dot_other).all

pub good_file : (bytes : List ℕ) (lines : List Assignment) (number : ℕ) → IsFile bytes lines → ¬ (IsBadLine bytes number)
good_file bytes lines number h k = k.no_dot (sym (one_way bytes lines k.assignments (46 ∷ []) k.line h k.comes dot_other k.bad).next)

pub one_bad_line : (bytes : List ℕ) (number other : ℕ) → IsBadLine bytes number → IsBadLine bytes other → number ≡ other
one_bad_line bytes number other h k =
    let same = ap length (one_way bytes h.assignments k.assignments h.line k.line h.comes k.comes h.bad k.bad).all in
    h.place ∙ ap (λ n. n + 1) same ∙ sym k.place

-- Lines of assignments alone

-- within such lines no other line comes
none_comes : (assignments others : List Assignment) (rest line after : List ℕ) → All IsAssignment assignments → All IsAssignment others
    → lines_of assignments ≡ lines_of others ++ rest → IsFirstLine rest line after → IsOther line → ⊥
none_comes [] [] rest line after h k e (IsEnded p f) isnt = absurd (nothing line after (e ∙ f))
  where
    nothing : (line after : List ℕ) → [] ≢ line ++ 10 ∷ after
    nothing [] after e = absurd (cc)
    nothing (b ∷ line) after e = absurd (cc)
none_comes [] [] rest line after h k e (IsLast p some f end) isnt = some (sym e)
none_comes [] (b ∷ others) rest line after h k e first isnt = absurd (nothing (line_of b) (lines_of others ++ rest) (e ∙ append_assoc (full_line b) (lines_of others) rest ∙ append_assoc (line_of b) (10 ∷ []) (lines_of others ++ rest)))
  where
    nothing : (line after : List ℕ) → [] ≢ line ++ 10 ∷ after
    nothing [] after e = absurd (cc)
    nothing (c ∷ line) after e = absurd (cc)
none_comes (a ∷ assignments) [] rest line after h k e first isnt =
    let good = All-head IsAssignment a assignments h in
    isnt a good (first_is a (lines_of assignments) line after good (subst (λ t. IsFirstLine t line after) (sym e) first))
none_comes (a ∷ assignments) (b ∷ others) rest line after h k e first isnt =
    let good = All-head IsAssignment a assignments h in
    let better = All-head IsAssignment b others k in
    let split = cut (line_of a) (line_of b) (lines_of assignments) (lines_of others ++ rest) (line_lacks a good) (line_lacks b better)
    (sym (append_assoc (line_of a) (10 ∷ []) (lines_of assignments)) ∙ e ∙ append_assoc (full_line b) (lines_of others) rest ∙ append_assoc (line_of b) (10 ∷ []) (lines_of others ++ rest)) in
    none_comes assignments others rest line after (All-tail IsAssignment a assignments h) (All-tail IsAssignment b others k) split.1 first isnt

-- one newline more leaves the first line
longer : (rest line after : List ℕ) → IsFirstLine rest line after → (next : List ℕ) × IsFirstLine (rest ++ 10 ∷ []) line next
longer rest line after (IsEnded p e) = (after ++ 10 ∷ [], IsEnded p (ap (λ t. t ++ 10 ∷ []) e ∙ append_assoc line (10 ∷ after) (10 ∷ [])))
longer rest line after (IsLast p some e end) = ([], IsEnded p (ap (λ t. t ++ 10 ∷ []) e))

no_other : (bytes : List ℕ) (others : List Assignment) (line : List ℕ) → HasNoDot bytes → Comes bytes others line → IsOther line → ⊥
no_other bytes others line h k isnt = ⊎_elim
    (λ whole. none_comes h.assignments others k.rest line k.after h.good k.good (sym whole ∙ k.text) k.next isnt)
    (λ cut_off. let more = longer k.rest line k.after k.next in
    none_comes h.assignments others (k.rest ++ 10 ∷ []) line more.0 h.good k.good
    (sym cut_off ∙ ap (λ t. t ++ 10 ∷ []) k.text ∙ append_assoc (lines_of others) k.rest (10 ∷ [])) more.1 isnt)
    h.text

pub no_file : (bytes : List ℕ) (lines : List Assignment) → HasNoDot bytes → ¬ (IsFile bytes lines)
no_file bytes lines h k = no_other bytes lines (46 ∷ []) h k dot_other

pub no_bad_line : (bytes : List ℕ) (number : ℕ) → HasNoDot bytes → ¬ (IsBadLine bytes number)
no_bad_line bytes number h k = no_other bytes k.assignments k.line h k.comes k.bad
