-- Entries make one disk.
use Rattle.std.proofs.Common.{◌≡◌, inl, inr, ⊎_elim, ℕ, List, [], ◌∷◌, ◌++◌, Option, Some, None, refl, sym, ap, ◌∙◌, subst, arith}
use Rattle.std.proofs.lemmas.Bool.{cases_lt}
use mathlib.Core.Path.{fun_ext}
use Rattle.call_fs.specs.Disk.{Disk, File, Open}
use Rattle.call_fs.specs.Maps.{put, put_at}
use Rattle.call_fs.specs.Free.{IsGreatestFree}
use Rattle.call_fs.specs.Placing.{PlacesNew}
use Rattle.mem_fs.specs.MemDisk.{Places}
use Rattle.mem_files.specs.MemFile.{settled_file}
use Rattle.script_words.specs.declared.entry.Entry.{Entry}
use Rattle.script_words.specs.declared.entry.Entry.TheVariants.{File as FileOf, Dir}
use Rattle.script_words.specs.Entries.{dirs_above}
use Rattle.call_fs.specs.Placing.{HasMade}
use Rattle.script_disks.specs.FirstDisk.{IsBareDisk, AreMade, Enters, EntersAll, IsFirstDisk}

one_bare : (d e : Disk) → IsBareDisk d → IsBareDisk e → d ≡ e
one_bare d e p q =
    ap (λ (dirs : List (List ℕ)). let x : Disk = record { dirs = dirs; names = d.names; files = d.files; opens = d.opens } in x) (p.dirs ∙ sym q.dirs)
    ∙ ap (λ (names : List ℕ → Option ℕ). let x : Disk = record { dirs = e.dirs; names = names; files = d.files; opens = d.opens } in x) (fun_ext (λ name. p.empty name ∙ sym (q.empty name)))
    ∙ ap (λ (files : ℕ → File). let x : Disk = record { dirs = e.dirs; names = e.names; files = files; opens = d.opens } in x) (fun_ext (λ n. p.fresh n ∙ sym (q.fresh n)))
    ∙ ap (λ (opens : ℕ → Option Open). let x : Disk = record { dirs = e.dirs; names = e.names; files = e.files; opens = opens } in x) (fun_ext (λ fd. p.shut fd ∙ sym (q.shut fd)))

one_made : (old : Disk) (dir : List ℕ) (a b : Disk) → HasMade old dir a → HasMade old dir b → a ≡ b
one_made old dir a b (inl p) (inl q) = p.1 ∙ sym q.1
one_made old dir a b (inl p) (inr q) = absurd (q.0 p.0)
one_made old dir a b (inr p) (inl q) = absurd (p.0 q.0)
one_made old dir a b (inr p) (inr q) = p.1 ∙ sym q.1

all_made : (old : Disk) (dirs : List (List ℕ)) (a b : Disk) → AreMade old dirs a → AreMade old dirs b → a ≡ b
all_made old [] a b p q = p ∙ sym q
all_made old (dir ∷ dirs) a b p q =
    all_made q.0 dirs a b (subst (λ (mid : Disk). AreMade mid dirs a) (one_made old dir p.0 q.0 p.1 q.1) p.2) q.2

one_greatest : (d : Disk) (m n : ℕ) → IsGreatestFree d m → IsGreatestFree d n → m ≡ n
one_greatest d m n p q = ⊎_elim
    (λ low. absurd (p.greatest n low q.in_range q.free))
    (λ high. ⊎_elim (λ low. absurd (q.greatest m low p.in_range p.free)) (λ same. omega (arith, high, same)) (cases_lt n m))
    (cases_lt m n)

placed_new : (old : Disk) (name : List ℕ) (file : File) (a b : Disk) → PlacesNew old name file a → PlacesNew old name file b → a ≡ b
placed_new old name file a b p q =
    p.is
    ∙ ap (λ (n : ℕ). let x : Disk = record { dirs = old.dirs; names = put_at old.names name (Some n); files = put old.files n file; opens = old.opens } in x) (one_greatest old p.number q.number p.greatest q.greatest)
    ∙ sym q.is

placed_by : (old : Disk) (name bytes : List ℕ) (a b : Disk) (number : Option ℕ) → old.names name ≡ number → Places old name bytes a → Places old name bytes b → a ≡ b
placed_by old name bytes a b None is p q = placed_new old name (settled_file bytes) a b (p.missing is) (q.missing is)
placed_by old name bytes a b (Some n) is p q = p.there n is ∙ sym (q.there n is)

one_entered : (old : Disk) (entry : Entry) (a b : Disk) → Enters old entry a → Enters old entry b → a ≡ b
one_entered old (FileOf path bytes) a b p q =
    placed_by q.0 path bytes a b (q.0.names path) refl
    (subst (λ (mid : Disk). Places mid path bytes a) (all_made old (dirs_above path) p.0 q.0 p.1 q.1) p.2) q.2
one_entered old (Dir path) a b p q = all_made old (dirs_above path ++ path ∷ []) a b p q

all_entered : (old : Disk) (entries : List Entry) (a b : Disk) → EntersAll old entries a → EntersAll old entries b → a ≡ b
all_entered old [] a b p q = p ∙ sym q
all_entered old (entry ∷ later) a b p q =
    all_entered q.0 later a b (subst (λ (mid : Disk). EntersAll mid later a) (one_entered old entry p.0 q.0 p.1 q.1) p.2) q.2

pub one_disk : (opening : List Entry) (d e : Disk) → IsFirstDisk opening d → IsFirstDisk opening e → d ≡ e
one_disk opening d e p q =
    all_entered q.bare opening d e (subst (λ (bare : Disk). EntersAll bare opening d) (one_bare p.bare q.bare p.is_bare q.is_bare) p.entered) q.entered
