-- The path of a maildir ends in `/`, and so does the one to which it leads.
use Rattle.std.proofs.Common.{◌≡◌, ℕ, List, [], ◌∷◌, ◌++◌, length, drop, Bool, true, false, Option, Some, None, All, Contains, nat_eq, refl, sym, ap, ◌∙◌, subst, append_assoc, arith}
use Rattle.std.specs.Prelude.{◌||◌, if◌then◌else◌, ◌==◌, IfSome}
use Rattle.std.specs.List.{cons_option, ends_with, filter_map, starts_with}
use Rattle.std.proofs.lemmas.List.{append-nil}
use Rattle.std.proofs.lemmas.List.Elements.{All-cons, All-contains, All-nil}
use Rattle.dot_qmail.specs.declared.line.Line.{Line}
use Rattle.dot_qmail.specs.declared.line.Line.TheVariants.{Command, Forward, Mailbox, Maildir}
use Rattle.dot_qmail.specs.Lines.{begins_blank, line_of, lines, path_line, plan_of, said, said_by, until_nul}
use Rattle.mail_bytes.specs.Texts.{trimmed}
use Rattle.dot_qmail.specs.Paths.{EndsInSlash, path_in, without_dot}
use Rattle.dot_qmail.proofs.Ranking.{ends_decides, starts_decides}

-- Lines

abbrev IsSlashed : Line → Type 0
IsSlashed (Maildir path) = EndsInSlash path
IsSlashed (Mailbox path) = Unit {0}
IsSlashed (Command text) = Unit {0}
IsSlashed (Forward address) = Unit {0}

by_path : (text : List ℕ) → IsSlashed (path_line text)
by_path text = by (ends_with nat_eq text (47 ∷ [])) refl
  where
    by : (t : Bool) → ends_with nat_eq text (47 ∷ []) ≡ t → IsSlashed (if t then Maildir text else Mailbox text)
    by true e = (ends_decides text (47 ∷ [])).0 e
    by false e = tt

by_first : (text : List ℕ) (b : ℕ) (rest : List ℕ) → IsSlashed (said_by text b rest)
by_first text b rest = by (b == 124) (b == 46 || b == 47) (b == 38)
  where
    by : (s t u : Bool) → IsSlashed (if s then Command rest else (if t then path_line text else (if u then Forward (until_nul rest) else Forward (until_nul text))))
    by true t u = tt
    by false true u = by_path text
    by false false true = tt
    by false false false = tt

unless : (t : Bool) (it : Line) → IsSlashed it → IfSome (if t then None else Some it) IsSlashed
unless true it h = tt
unless false it h = h

by_text : (text : List ℕ) → IfSome (said text) IsSlashed
by_text [] = tt
by_text (b ∷ rest) = unless (b == 35 || b == 43) (said_by (b ∷ rest) b rest) (by_first (b ∷ rest) b rest)

with_one : (o : Option Line) (more : List Line) → IfSome o IsSlashed → All IsSlashed more → All IsSlashed (cons_option o more)
with_one None more h hs = hs
with_one (Some it) more h hs = All-cons IsSlashed it more h hs

all_slashed : (pieces : List (List ℕ)) → All IsSlashed (filter_map line_of pieces)
all_slashed [] = All-nil IsSlashed
all_slashed (line ∷ pieces) = with_one (line_of line) (filter_map line_of pieces) (by_text (trimmed line)) (all_slashed pieces)

pub maildir_slashed : (bytes path : List ℕ) (plan : List Line) → plan_of bytes ≡ Some plan → Contains plan (Maildir path) → EndsInSlash path
unfolding plan_of
maildir_slashed bytes path plan e has = All-contains IsSlashed plan (Maildir path) (by (begins_blank bytes) e) has
  where
    by : (t : Bool) → ◌≡◌ {A = Option (List Line)} (if t then None else Some (filter_map line_of (lines bytes))) (Some plan) → All IsSlashed plan
    by true none = absurd (cc)
    by false some =
        let same : filter_map line_of (lines bytes) ≡ plan = cc in
        subst (All IsSlashed) same (all_slashed (lines bytes))

-- Where paths lead

after : (dir path : List ℕ) → EndsInSlash path → EndsInSlash (dir ++ path)
after dir path h = (dir ++ h.0, ap (λ t. dir ++ t) h.1 ∙ sym (append_assoc dir h.0 (47 ∷ [])))

-- without `./` nothing is left of `./` itself, and then the home's own slash is the last
after_dot : (home rest front : List ℕ) → 46 ∷ 47 ∷ rest ≡ front ++ 47 ∷ [] → EndsInSlash ((home ++ 47 ∷ []) ++ rest)
after_dot home [] front e = (home, append-nil (home ++ 47 ∷ []))
after_dot home (b ∷ rest) [] e = let size = ap length e in absurd (omega (arith, size))
after_dot home (b ∷ rest) (x ∷ []) e = let size = ap length e in absurd (omega (arith, size))
after_dot home (b ∷ rest) (x ∷ (y ∷ front)) e = after (home ++ 47 ∷ []) (b ∷ rest) (front, ap (drop 2) e)

without_slashed : (home path : List ℕ) → EndsInSlash path → EndsInSlash ((home ++ 47 ∷ []) ++ without_dot path)
without_slashed home path h = by (starts_with nat_eq path (46 ∷ 47 ∷ [])) refl
  where
    by : (t : Bool) → starts_with nat_eq path (46 ∷ 47 ∷ []) ≡ t → EndsInSlash ((home ++ 47 ∷ []) ++ (if t then drop 2 path else path))
    by true e =
        let it = (starts_decides path (46 ∷ 47 ∷ [])).0 e in
        subst (λ p. EndsInSlash ((home ++ 47 ∷ []) ++ drop 2 p)) (sym it.1) (after_dot home it.0 h.0 (sym it.1 ∙ h.1))
    by false e = after (home ++ 47 ∷ []) path h

pub leads_slashed : (home path : List ℕ) → EndsInSlash path → EndsInSlash (path_in home path)
leads_slashed home path h = by (starts_with nat_eq path (47 ∷ []))
  where
    by : (t : Bool) → EndsInSlash (if t then path else (home ++ 47 ∷ []) ++ without_dot path)
    by true = h
    by false = without_slashed home path h
