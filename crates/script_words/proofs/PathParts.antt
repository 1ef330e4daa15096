-- Paths of entries.
use Rattle.std.proofs.Common.{ℕ, List, [], ◌∷◌, Contains, Some, None, refl, sym, ◌∙◌, subst}
use Rattle.std.specs.Prelude.{codes}
use Rattle.std.proofs.lemmas.List.Elements.{All-nil, All-cons, All-contains}
use Rattle.call_fs.specs.Names.{AreParts}
use Rattle.script_words.specs.Entries.{IsEntryPath, entry_dirs}
use Rattle.script_words.specs.Reading.{IsCut}
use Rattle.script_words.proofs.Cuts.{lacks, same-cut, not-cut}

-- none of those directories has a `/`
dir_lacks : (dir : List ℕ) → Contains entry_dirs dir → ¬ (Contains dir 47)
dir_lacks dir is =
    let P : List ℕ → Type 0 = λ d. ¬ (Contains d 47) in
    All-contains P entry_dirs dir
    (All-cons P (codes "control") (codes "users" ∷ codes "home" ∷ codes "pid" ∷ []) (lacks (codes "control") 47 refl)
    (All-cons P (codes "users") (codes "home" ∷ codes "pid" ∷ []) (lacks (codes "users") 47 refl)
    (All-cons P (codes "home") (codes "pid" ∷ []) (lacks (codes "home") 47 refl)
    (All-cons P (codes "pid") [] (lacks (codes "pid") 47 refl) (All-nil P))))) is

pub path_parts : (path dir below : List ℕ) → IsCut path 47 dir (Some below) → IsEntryPath path → Contains entry_dirs dir × AreParts below
path_parts path dir below cut is =
    let same = same-cut is.dir is.below dir below 47 (dir_lacks is.dir is.is_dir) cut.without (sym is.path_is ∙ cut.parts) in
    (subst (Contains entry_dirs) same.0 is.is_dir, subst AreParts same.1 is.parts)

pub no_path : (path dir : List ℕ) → IsCut path 47 dir None → ¬ (IsEntryPath path)
no_path path dir cut is = not-cut is.dir is.below dir 47 cut.without (sym is.path_is ∙ cut.parts)
