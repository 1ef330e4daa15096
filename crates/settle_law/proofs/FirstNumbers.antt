-- The disk that a script begins with: no name in `todo`, and as many numbers in use at most as it has entries.
use Rattle.std.proofs.Common.{◌≡◌, ⊎_elim, ℕ, ◌+◌, ◌<◌, ◌≤◌, ◌^◌, List, [], ◌∷◌, ◌++◌, length, Option, Some, None, refl, sym, ◌∙◌, subst, arith}
use Rattle.call_fs.specs.Disk.{Disk, IsUnused}
use Rattle.call_fs.proofs.Maps.{put_at_cases}
use Rattle.call_fs.specs.Placing.{with_dir, HasMade}
use Rattle.mem_fs.specs.MemDisk.{Places}
use Rattle.script_words.specs.declared.entry.Entry.{Entry}
use Rattle.script_words.specs.declared.entry.Entry.TheVariants.{Dir, File}
use Rattle.script_words.specs.Entries.{dirs_above}
use Rattle.script_lines.specs.Contents.{HaveEntryPaths}
use Rattle.script_disks.specs.FirstDisk.{AreMade, Enters, EntersAll, IsBareDisk, IsFirstDisk}
use Rattle.scenario.proofs.Openings.{is_ready, none_of}
use Rattle.settle_law.specs.Well.{TodoIsEmpty, todo_name}
use Rattle.settle_law.proofs.PlayedNumbers.{UsesFew}
use Rattle.settle_law.proofs.UsedNumbers.{Lacks, same_number}

-- no more numbers than this are in use
record UsesAtMost (d : Disk) (most : ℕ) : Type 0 where
  numbers : List ℕ
  used : (n : ℕ) → Lacks numbers n → IsUnused d n
  few : length numbers ≤ most

more_used : (d : Disk) (most : ℕ) → UsesAtMost d most → UsesAtMost d (most + 1)
more_used d most uses = let low = uses.few in record { numbers = uses.numbers; used = uses.used; few = omega (arith, low) }

bare_used : (d : Disk) → IsBareDisk d → UsesAtMost d 0
bare_used d bare = record {
  numbers = [];
  used = λ n lacks. record {
    unnamed = λ name is. let none = sym (bare.empty name) ∙ is in absurd (cc);
    unopened = λ fd o is. let none = sym (bare.shut fd) ∙ is in absurd (cc);
  };
  few = omega arith;
}

dir_used : (d : Disk) (dir : List ℕ) (most : ℕ) → UsesAtMost d most → UsesAtMost (with_dir d dir) most
dir_used d dir most uses = record {
  numbers = uses.numbers;
  used = λ n lacks. let u = uses.used n lacks in record { unnamed = u.unnamed; unopened = u.unopened };
  few = uses.few;
}

made_used : (old : Disk) (dir : List ℕ) (new : Disk) (most : ℕ) → HasMade old dir new → UsesAtMost old most → UsesAtMost new most
made_used old dir new most made uses = ⊎_elim
    (λ h. subst (λ (d : Disk). UsesAtMost d most) (sym h.1) uses)
    (λ h. subst (λ (d : Disk). UsesAtMost d most) (sym h.1) (dir_used old dir most uses))
    made

all_made_used : (old : Disk) (dirs : List (List ℕ)) (new : Disk) (most : ℕ) → AreMade old dirs new → UsesAtMost old most → UsesAtMost new most
all_made_used old [] new most made uses = subst (λ (d : Disk). UsesAtMost d most) (sym made) uses
all_made_used old (dir ∷ dirs) new most made uses = all_made_used made.0 dirs new most made.2 (made_used old dir made.0 most made.1 uses)

placed_used : (old : Disk) (name bytes : List ℕ) (new : Disk) (most : ℕ) (number : Option ℕ) → old.names name ≡ number → Places old name bytes new → UsesAtMost old most → UsesAtMost new (most + 1)
placed_used old name bytes new most None missing places uses =
    let made = places.missing missing in
    let low = uses.few in
    subst (λ (d : Disk). UsesAtMost d (most + 1)) (sym made.is) (record {
      numbers = made.number ∷ uses.numbers;
      used = λ n lacks. let u = uses.used n lacks.1 in record {
        unnamed = λ other is. ⊎_elim
            (λ h. lacks.0 (same_number made.number n (sym h.1 ∙ is)))
            (λ h. u.unnamed other (sym h.1 ∙ is))
            (put_at_cases old.names name (Some made.number) other);
        unopened = u.unopened;
      };
      few = omega (arith, low);
    })
placed_used old name bytes new most (Some m) there places uses =
    subst (λ (d : Disk). UsesAtMost d (most + 1)) (sym (places.there m there)) (more_used _ most (record {
      numbers = uses.numbers;
      used = λ n lacks. let u = uses.used n lacks in record { unnamed = u.unnamed; unopened = u.unopened };
      few = uses.few;
    }))

entry_used : (old : Disk) (entry : Entry) (new : Disk) (most : ℕ) → Enters old entry new → UsesAtMost old most → UsesAtMost new (most + 1)
entry_used old (File path bytes) new most enters uses =
    placed_used enters.0 path bytes new most (enters.0.names path) refl enters.2 (all_made_used old (dirs_above path) enters.0 most enters.1 uses)
entry_used old (Dir path) new most enters uses = more_used new most (all_made_used old (dirs_above path ++ path ∷ []) new most enters uses)

entries_used : (old : Disk) (entries : List Entry) (new : Disk) (most : ℕ) → EntersAll old entries new → UsesAtMost old most → UsesAtMost new (most + length entries)
entries_used old [] new most enters uses =
    let same : most ≡ most + 0 = omega arith in
    subst (UsesAtMost new) same (subst (λ (d : Disk). UsesAtMost d most) (sym enters) uses)
entries_used old (entry ∷ later) new most enters uses =
    let same : most + 1 + length later ≡ most + length (entry ∷ later) = omega arith in
    subst (UsesAtMost new) same (entries_used enters.0 later new (most + 1) enters.2 (entry_used old entry enters.0 most enters.1 uses))

pub first_uses : (opening : List Entry) (d : Disk) → length opening < 2 ^ 63 → IsFirstDisk opening d → UsesFew d
first_uses opening d low first =
    let all = entries_used first.bare opening d 0 first.entered (bare_used first.bare first.is_bare) in
    let few = all.few in
    record { numbers = all.numbers; used = all.used; few = omega (arith, few, low) }

-- each entry lies below `control`, `users`, `home` or `pid`
pub first_empty : (opening : List Entry) (d : Disk) → HaveEntryPaths opening → IsFirstDisk opening d → TodoIsEmpty d
first_empty opening d paths first part one = by (d.names (todo_name part)) refl
  where
    by : (o : Option ℕ) → d.names (todo_name part) ≡ o → o ≡ None
    by None is = refl
    by (Some n) is =
        absurd (none_of 116 (todo_name part) refl (λ e. omega arith) (λ e. omega arith) (λ e. omega arith) (λ e. omega arith)
        ((is_ready opening d paths first).entries (todo_name part) n is))
