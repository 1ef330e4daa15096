-- On the disk that a script begins with no file has two names.
use Rattle.std.proofs.Common.{◌≡◌, ◌≢◌, ⊎_elim, ℕ, List, [], ◌∷◌, ◌++◌, Option, Some, None, refl, sym, ◌∙◌, subst}
use Rattle.call_fs.specs.Disk.{Disk}
use Rattle.call_fs.specs.Maps.{put_at}
use Rattle.call_fs.proofs.Maps.{put_at_cases}
use Rattle.mem_fs.specs.MemDisk.{Places}
use Rattle.script_words.specs.declared.entry.Entry.{Entry}
use Rattle.script_words.specs.declared.entry.Entry.TheVariants.{File, Dir}
use Rattle.script_words.specs.Entries.{dirs_above}
use Rattle.call_fs.specs.Placing.{HasMade}
use Rattle.script_disks.specs.FirstDisk.{AreMade, Enters, EntersAll, IsFirstDisk}

abbrev AreSingle : Disk → Type 0
AreSingle d = (a b : List ℕ) (n : ℕ) → d.names a ≡ Some n → d.names b ≡ Some n → a ≡ b

made : (old : Disk) (dir : List ℕ) (new : Disk) → HasMade old dir new → AreSingle old → AreSingle new
made old dir new how is = ⊎_elim (λ h. subst AreSingle (sym h.1) is) (λ h. subst AreSingle (sym h.1) is) how

all_made : (old : Disk) (dirs : List (List ℕ)) (new : Disk) → AreMade old dirs new → AreSingle old → AreSingle new
all_made old [] new how is = subst AreSingle (sym how) is
all_made old (dir ∷ dirs) new how is = all_made how.0 dirs new how.2 (made old dir how.0 how.1 is)

-- a new name has a number that no other name has
new_name : (names : List ℕ → Option ℕ) (name : List ℕ) (m : ℕ) → ((other : List ℕ) → names other ≢ Some m)
    → ((a b : List ℕ) (n : ℕ) → names a ≡ Some n → names b ≡ Some n → a ≡ b)
    → (a b : List ℕ) (n : ℕ) → put_at names name (Some m) a ≡ Some n → put_at names name (Some m) b ≡ Some n → a ≡ b
new_name names name m unnamed is a b n there too =
    ⊎_elim
    (λ x. ⊎_elim
    (λ y. x.0 ∙ sym y.0)
    (λ y. absurd (unnamed b (sym y.1 ∙ too ∙ sym there ∙ x.1)))
    (put_at_cases names name (Some m) b))
    (λ x. ⊎_elim
    (λ y. absurd (unnamed a (sym x.1 ∙ there ∙ sym too ∙ y.1)))
    (λ y. is a b n (sym x.1 ∙ there) (sym y.1 ∙ too))
    (put_at_cases names name (Some m) b))
    (put_at_cases names name (Some m) a)

placed : (old : Disk) (name bytes : List ℕ) (new : Disk) (number : Option ℕ) → old.names name ≡ number → Places old name bytes new → AreSingle old → AreSingle new
placed old name bytes new None missing places is =
    let made = places.missing missing in
    subst AreSingle (sym made.is) (new_name old.names name made.number made.greatest.free.1.unnamed is)
placed old name bytes new (Some m) there places is = subst AreSingle (sym (places.there m there)) is

entered : (old : Disk) (entry : Entry) (new : Disk) → Enters old entry new → AreSingle old → AreSingle new
entered old (File path bytes) new enters is =
    placed enters.0 path bytes new (enters.0.names path) refl enters.2 (all_made old (dirs_above path) enters.0 enters.1 is)
entered old (Dir path) new enters is = all_made old (dirs_above path ++ path ∷ []) new enters is

all_entered : (old : Disk) (entries : List Entry) (new : Disk) → EntersAll old entries new → AreSingle old → AreSingle new
all_entered old [] new enters is = subst AreSingle (sym enters) is
all_entered old (entry ∷ later) new enters is = all_entered enters.0 later new enters.2 (entered old entry enters.0 enters.1 is)

pub one_name : (opening : List Entry) (d : Disk) → IsFirstDisk opening d → (a b : List ℕ) (n : ℕ) → d.names a ≡ Some n → d.names b ≡ Some n → a ≡ b
one_name opening d first =
    all_entered first.bare opening d first.entered (λ a b n there too. let none = sym (first.is_bare.empty a) ∙ there in absurd (cc))
