-- Directories that a path goes through.
use Rattle.std.proofs.Common.{◌≡◌, ℕ, Bool, true, false, List, [], ◌∷◌, ◌++◌, length, map, drop, take, bytes_eq, All, Contains, refl, sym, ap, ◌∙◌, subst, take-append-drop, arith}
use Rattle.std.specs.Prelude.{◌==◌, if◌then◌else◌}
use Rattle.std.proofs.lemmas.Bool.{eqb-true}
use Rattle.std.proofs.lemmas.List.{length-map}
use Rattle.std.proofs.lemmas.List.Elements.{All-nil, All-cons, All-append, All-weaker, All-map, All-contains, Contains-append_right}
use Rattle.std.proofs.Math.ListN.{get_or-map}
use Rattle.std.proofs.lemmas.Cmp.{nat_list_eq_equiv}
use Rattle.std.proofs.Math.Seq.{take-append_seam, drop-append_seam}
use Rattle.call_fs.proofs.Maps.{bytes_eq-decides}
use Rattle.script_words.specs.Entries.{dirs_above, IsAbove}

-- what stands after a prefix
pub behind_prefix : (dir path rest : List ℕ) → bytes_eq (take (length dir) path) dir ≡ true → rest ≡ drop (length dir) path → path ≡ dir ++ rest
behind_prefix dir path rest front is =
    sym (take-append-drop (length dir) path)
    ∙ ap (λ (x : List ℕ). x ++ drop (length dir) path) ((bytes_eq-decides (take (length dir) path) dir).0 front)
    ∙ ap (λ (x : List ℕ). dir ++ x) (sym is)

pub not_prefix : (dir path rest : List ℕ) → bytes_eq (take (length dir) path) dir ≡ false → path ≡ dir ++ rest → ⊥
not_prefix dir path rest differs e =
    let same : bytes_eq (take (length dir) path) dir ≡ true = ap (λ n. bytes_eq (take (length dir) n) dir) e ∙ ap (λ x. bytes_eq x dir) (take-append_seam dir rest) ∙ nat_list_eq_equiv.refl dir in
    cc

-- one prefix has one rest
pub one_rest : (dir path rest other : List ℕ) → rest ≡ drop (length dir) path → path ≡ dir ++ other → rest ≡ other
one_rest dir path rest other is e = is ∙ ap (drop (length dir)) e ∙ drop-append_seam dir other

-- a byte before each of some texts
contains_map : (b : ℕ) (dirs : List (List ℕ)) (dir : List ℕ) → Contains dirs dir → Contains (map (λ d. b ∷ d) dirs) (b ∷ dir)
contains_map b dirs dir here =
    let long = length-map dirs (λ (d : List ℕ). b ∷ d) in
    let within = here.1 in
    (here.0, omega arith, get_or-map (λ (d : List ℕ). b ∷ d) dirs here.0 dir ∙ ap (λ (d : List ℕ). b ∷ d) here.2)

-- a path is a directory, a `/` and more
abbrev Leads : List ℕ → List ℕ → Type 0
Leads path dir = (rest : List ℕ) × (path ≡ dir ++ 47 ∷ rest)

-- so it is of each directory that it goes through
lead : (path : List ℕ) → All (Leads path) (dirs_above path)
lead [] = All-nil (Leads [])
lead (b ∷ path) =
    All-append (Leads (b ∷ path)) (if b == 47 then [] ∷ [] else []) (map (λ dir. b ∷ dir) (dirs_above path))
    (own (b == 47) (eqb-true b 47))
    (All-map (Leads (b ∷ path)) (λ dir. b ∷ dir) (dirs_above path)
    (All-weaker (Leads path) (λ dir. Leads (b ∷ path) (b ∷ dir)) (λ dir leads. (leads.0, ap (λ t. b ∷ t) leads.1)) (dirs_above path) (lead path)))
  where
    own : (slash : Bool) → (slash ≡ true → b ≡ 47) → All (Leads (b ∷ path)) (if slash then [] ∷ [] else [])
    own true is = All-cons (Leads (b ∷ path)) [] [] (path, ap (λ c. c ∷ path) (is refl)) (All-nil (Leads (b ∷ path)))
    own false is = All-nil (Leads (b ∷ path))

pub from_above : (dir path : List ℕ) → IsAbove dir path → (rest : List ℕ) × (path ≡ dir ++ 47 ∷ rest)
from_above dir path above = All-contains (Leads path) (dirs_above path) dir (lead path) above

-- and it goes through each directory of which it is so
above : (dir rest : List ℕ) → IsAbove dir (dir ++ 47 ∷ rest)
above [] rest = (0, omega arith, refl)
above (b ∷ dir) rest =
    Contains-append_right (if b == 47 then [] ∷ [] else []) (map (λ d. b ∷ d) (dirs_above (dir ++ 47 ∷ rest))) (b ∷ dir)
    (contains_map b (dirs_above (dir ++ 47 ∷ rest)) dir (above dir rest))

pub to_above : (dir path rest : List ℕ) → path ≡ dir ++ 47 ∷ rest → IsAbove dir path
to_above dir path rest is = subst (IsAbove dir) (sym is) (above dir rest)
