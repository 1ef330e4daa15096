-- Directories that are made if they are missing, and entries, one after the other.
use Rattle.std.proofs.Common.{◌≡◌, ℕ, ◌+◌, ◌<◌, List, [], ◌∷◌, ◌++◌, length, map, take, get_or, Bool, true, false, if◌then◌else◌, ◌==◌, Option, Some, None, refl, sym, ap, ◌∙◌, subst, append_assoc}
use Rattle.std.proofs.lemmas.List.{append-nil, map-append, take_more}
use Rattle.std.proofs.lemmas.Bool.Decides.{Decides-eqb}
use Rattle.call_fs.specs.Disk.{Disk}
use Rattle.mem_fs.specs.MemDisk.{Places}
use Rattle.script_words.specs.declared.entry.Entry.{Entry}
use Rattle.script_words.specs.declared.entry.Entry.TheVariants.{Dir}
use Rattle.script_words.specs.Entries.{dirs_above}
use Rattle.call_fs.specs.Placing.{HasMade}
use Rattle.script_disks.specs.FirstDisk.{AreMade, Enters, EntersAll}

-- some, and then more
pub made_both : (a mid b : Disk) (dirs more : List (List ℕ)) → AreMade a dirs mid → AreMade mid more b → AreMade a (dirs ++ more) b
made_both a mid b [] more first rest = subst (λ (d : Disk). AreMade d more b) first rest
made_both a mid b (dir ∷ dirs) more first rest = (first.0, first.1, made_both first.0 mid b dirs more first.2 rest)

-- some, and then one more
pub made_more : (a mid b : Disk) (dirs : List (List ℕ)) (dir : List ℕ) → AreMade a dirs mid → HasMade mid dir b → AreMade a (dirs ++ dir ∷ []) b
made_more a mid b dirs dir first one = made_both a mid b dirs (dir ∷ []) first (b, one, refl)

-- the directory that ends before a byte, if that byte is `/`
abbrev ended_by : Bool → List ℕ → List (List ℕ)
ended_by slash dir = if slash then dir ∷ [] else []

longer : (slash : Bool) (b : ℕ) (dir : List ℕ) → map (λ d. b ∷ d) (ended_by slash dir) ≡ ended_by slash (b ∷ dir)
longer true b dir = refl
longer false b dir = refl

-- the directories above a path with one byte more
above_more : (path : List ℕ) (b : ℕ) → dirs_above (path ++ b ∷ []) ≡ dirs_above path ++ ended_by (b == 47) path
above_more [] b = append-nil (ended_by (b == 47) [])
above_more (first ∷ path) b =
    let own = ended_by (first == 47) [] in
    ap (λ (dirs : List (List ℕ)). own ++ map (λ d. first ∷ d) dirs) (above_more path b)
    ∙ ap (λ (dirs : List (List ℕ)). own ++ dirs) (map-append (λ d. first ∷ d) (dirs_above path) (ended_by (b == 47) path)
    ∙ ap (λ (dirs : List (List ℕ)). map (λ d. first ∷ d) (dirs_above path) ++ dirs) (longer (b == 47) first path))
    ∙ sym (append_assoc own (map (λ d. first ∷ d) (dirs_above path)) (ended_by (b == 47) (first ∷ path)))

above_to : (path : List ℕ) (i d : ℕ) → i < length path → dirs_above (take (i + 1) path) ≡ dirs_above (take i path) ++ ended_by (get_or path i d == 47) (take i path)
above_to path i d within = ap dirs_above (take_more path i d within) ∙ above_more (take i path) (get_or path i d)

is_slash : (b : ℕ) (slash : Bool) → (b == 47) ≡ slash → (b ≡ 47 → ⊥) → (b == 47) ≡ false
is_slash b true is other = absurd (other ((Decides-eqb b 47).0 is))
is_slash b false is other = is

-- at a `/` a directory is made
pub above_slash : (a mid b : Disk) (path : List ℕ) (i d : ℕ) → i < length path → get_or path i d ≡ 47
    → AreMade a (dirs_above (take i path)) mid → HasMade mid (take i path) b → AreMade a (dirs_above (take (i + 1) path)) b
above_slash a mid b path i d within slash first one =
    subst (λ (dirs : List (List ℕ)). AreMade a dirs b)
    (sym (above_to path i d within ∙ ap (λ byte. dirs_above (take i path) ++ ended_by (byte == 47) (take i path)) slash))
    (made_more a mid b (dirs_above (take i path)) (take i path) first one)

-- at another byte none is
pub above_other : (a b : Disk) (path : List ℕ) (i d : ℕ) → i < length path → (get_or path i d ≡ 47 → ⊥)
    → AreMade a (dirs_above (take i path)) b → AreMade a (dirs_above (take (i + 1) path)) b
above_other a b path i d within other first =
    let byte = get_or path i d in
    subst (λ (dirs : List (List ℕ)). AreMade a dirs b)
    (sym (above_to path i d within
    ∙ ap (λ slash. dirs_above (take i path) ++ ended_by slash (take i path)) (is_slash byte (byte == 47) refl other)
    ∙ append-nil (dirs_above (take i path))))
    first

-- a file changes no directory
placed_by : (old : Disk) (name bytes : List ℕ) (new : Disk) (number : Option ℕ) → old.names name ≡ number → Places old name bytes new → new.dirs ≡ old.dirs
placed_by old name bytes new None is places = ap (λ (d : Disk). d.dirs) (places.missing is).is
placed_by old name bytes new (Some n) is places = ap (λ (d : Disk). d.dirs) (places.there n is)

pub placed_dirs : (old : Disk) (name bytes : List ℕ) (new : Disk) → Places old name bytes new → new.dirs ≡ old.dirs
placed_dirs old name bytes new places = placed_by old name bytes new (old.names name) refl places

-- some entries, and then one more
entered_both : (a mid b : Disk) (entries more : List Entry) → EntersAll a entries mid → EntersAll mid more b → EntersAll a (entries ++ more) b
entered_both a mid b [] more first rest = subst (λ (d : Disk). EntersAll d more b) first rest
entered_both a mid b (entry ∷ entries) more first rest = (first.0, first.1, entered_both first.0 mid b entries more first.2 rest)

pub entered_to : (a mid b : Disk) (entries : List Entry) (i : ℕ) (entry : Entry) → i < length entries → entry ≡ get_or entries i entry
    → EntersAll a (take i entries) mid → Enters mid entry b → EntersAll a (take (i + 1) entries) b
entered_to a mid b entries i entry within is first one =
    subst (λ (l : List Entry). EntersAll a l b) (sym (take_more entries i entry within ∙ ap (λ (e : Entry). take i entries ++ e ∷ []) (sym is)))
    (entered_both a mid b (take i entries) (entry ∷ []) first (b, one, refl))

-- a directory is put on a disk after those above it
pub entered_dir : (a mid b : Disk) (entry : Entry) (path above own : List ℕ) → entry ≡ Dir path → above ≡ path → own ≡ path
    → AreMade a (dirs_above above) mid → HasMade mid own b → Enters a entry b
entered_dir a mid b entry path above own is over it first one =
    subst (λ (e : Entry). Enters a e b) (sym is)
    (made_more a mid b (dirs_above path) path (subst (λ p. AreMade a (dirs_above p) mid) over first) (subst (λ p. HasMade mid p b) it one))
