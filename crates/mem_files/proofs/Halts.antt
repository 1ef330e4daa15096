-- The files of a disk in memory at a machine stop, one after another.
use Rattle.std.proofs.Common.{◌≡◌, ◌≢◌, ℕ, ◌+◌, ◌<◌, Bool, true, false, cond, List, [], ◌∷◌, ◌++◌, length, take, drop, map, filter, get_or, Option, Some, None, IsSome, nat_eq, append_assoc, append-nil, refl, sym, ap, ◌∙◌}
use Rattle.std.proofs.lemmas.Bool.Decides.{Decides-eqb}
use Rattle.std.proofs.lemmas.List.{take_more, drop_more, map-append}
use Rattle.std.proofs.lemmas.List.Elements.{filter-append}
use Rattle.call_fs.specs.declared.crash_file_system.Survival.{Survival}
use Rattle.call_fs.specs.Choices.{after_kept}
use Rattle.mem_files.specs.declared.file.Inode.{Inode}
use Rattle.mem_files.specs.MemHalt.{left_of, settled_entry, settled_entries}

-- ---- the values that a place had

abbrev pub given_to : ℕ → List (ℕ × ℕ) → List ℕ
given_to place given = map (λ g. g.1) (filter (λ g. nat_eq g.0 place) given)

given_to-more : (place : ℕ) (given : List (ℕ × ℕ)) (i : ℕ) (g : ℕ × ℕ) → i < length given → g ≡ get_or given i g
    → given_to place (take (i + 1) given) ≡ given_to place (take i given) ++ cond (nat_eq g.0 place) (g.1 ∷ []) []
given_to-more place given i g within read =
    ap (given_to place) (take_more given i g within ∙ ap (λ (x : ℕ × ℕ). take i given ++ x ∷ []) (sym read))
    ∙ ap (map (λ (x : ℕ × ℕ). x.1)) (filter-append (λ (x : ℕ × ℕ). nat_eq x.0 place) (take i given) (g ∷ []))
    ∙ map-append (λ (x : ℕ × ℕ). x.1) (filter (λ (x : ℕ × ℕ). nat_eq x.0 place) (take i given)) (cond (nat_eq g.0 place) (g ∷ []) [])
    ∙ ap (λ ys. given_to place (take i given) ++ ys) (one (nat_eq g.0 place))
  where
    one : (b : Bool) → map (λ (x : ℕ × ℕ). x.1) (cond b (g ∷ []) []) ≡ cond b (g.1 ∷ []) []
    one true = refl
    one false = refl

abbrev pub values_to : Option ℕ → ℕ → List (ℕ × ℕ) → List ℕ
values_to kept place given = after_kept kept (given_to place given)

pub values-more : (kept : Option ℕ) → IsSome kept → (place : ℕ) (given : List (ℕ × ℕ)) (i : ℕ) (g : ℕ × ℕ) → i < length given → g ≡ get_or given i g → g.0 ≡ place
    → values_to kept place (take (i + 1) given) ≡ values_to kept place (take i given) ++ g.1 ∷ []
values-more None there place given i g within read is = absurd cc
values-more (Some v) there place given i g within read is =
    ap (λ xs. v ∷ xs) (given_to-more place given i g within read ∙ ap (λ b. given_to place (take i given) ++ cond b (g.1 ∷ []) []) ((Decides-eqb g.0 place).1 is))

pub values-same : (kept : Option ℕ) → IsSome kept → (place : ℕ) (given : List (ℕ × ℕ)) (i : ℕ) (g : ℕ × ℕ) → i < length given → g ≡ get_or given i g → g.0 ≢ place
    → values_to kept place (take (i + 1) given) ≡ values_to kept place (take i given)
values-same None there place given i g within read differs = absurd cc
values-same (Some v) there place given i g within read differs =
    ap (λ xs. v ∷ xs) (given_to-more place given i g within read
    ∙ ap (λ b. given_to place (take i given) ++ cond b (g.1 ∷ []) []) (off (nat_eq g.0 place) refl)
    ∙ append-nil (given_to place (take i given)))
  where
    off : (b : Bool) → nat_eq g.0 place ≡ b → nat_eq g.0 place ≡ false
    off true t = absurd (differs ((Decides-eqb g.0 place).0 t))
    off false f = f

-- ---- the entries

-- one entry more
pub entries-more : (how : Survival) (x y : ℕ) (files done : List (ℕ × Inode)) (whole : List (ℕ × Inode)) (i : ℕ) (e : ℕ × Inode) (settled : Inode) → i < length files → e ≡ get_or files i e
    → settled ≡ settled_entry (left_of how e.1 x).0 e.1 → y ≡ (left_of how e.1 x).1
    → whole ≡ done ++ settled_entries how x (drop i files)
    → whole ≡ (done ++ (e.0, settled) ∷ []) ++ settled_entries how y (drop (i + 1) files)
entries-more how x y files done whole i e settled within read made next was =
    was
    ∙ ap (λ es. done ++ settled_entries how x es) (drop_more files i e within ∙ ap (λ (f : ℕ × Inode). f ∷ drop (i + 1) files) (sym read))
    ∙ ap (λ z. done ++ (e.0, settled_entry (left_of how e.1 x).0 e.1) ∷ settled_entries how z (drop (i + 1) files)) (sym next)
    ∙ ap (λ (s : Inode). done ++ (e.0, s) ∷ settled_entries how y (drop (i + 1) files)) (sym made)
    ∙ sym (append_assoc done ((e.0, settled) ∷ []) (settled_entries how y (drop (i + 1) files)))
