-- The files that an injector makes have names of the right form, in directories of the queue.
use Rattle.std.proofs.Common.{◌≡◌, ℕ, ◌<◌, ◌^◌, List, [], ◌∷◌, ◌++◌, All, Contains, refl, sym, ap, ◌∙◌, subst, arith, codes}
use Rattle.std.specs.Prelude.{◌==◌, false}
use Rattle.std.specs.List.{slice_split}
use Rattle.std.proofs.lemmas.List.Elements.{All-cons, All-from_recursion, All-nil}
use Rattle.std.proofs.lemmas.List.Splits.{slice_split_at, slice_split_none}
use Rattle.call_fs.specs.Disk.{Disk, HasDir}
use Rattle.call_fs.specs.Names.{IsName, IsPart}
use Rattle.mail_bytes.specs.Decimal.{digits}
use Rattle.queue_paths.specs.Dirs.{queue_dirs}
use Rattle.queue_paths.specs.Names.{path}
use Rattle.queue_paths.specs.Names.Name.{Of}
use Rattle.queue_paths.specs.Names.Part.{Intd, Mess, Todo}
use Rattle.settle_law.proofs.PartDirs.{lies_there, number_part, plain, three_parts, word_part}

two_parts : (word : List ℕ) (n : ℕ) → n < 2 ^ 64 → IsPart word → All (λ b. (b == 47) ≡ false) word → All IsPart (slice_split (λ b. b == 47) (word ++ 47 ∷ digits n))
two_parts word n small part none =
    let parts : slice_split (λ b. b == 47) (word ++ 47 ∷ digits n) ≡ word ∷ (digits n ∷ []) =
    slice_split_at (λ b. b == 47) word 47 (digits n) none refl ∙ ap (λ (last : List (List ℕ)). word ∷ last) (slice_split_none (λ b. b == 47) (digits n) (plain n)) in
    subst (λ (all : List (List ℕ)). All IsPart all) (sym parts) (All-cons IsPart word (digits n ∷ []) part (All-cons IsPart (digits n) [] (number_part n small) (All-nil IsPart)))

abbrev IsPositive : ℕ → Type 0
IsPositive b = 0 < b

abbrev IsNoSlash : ℕ → Type 0
IsNoSlash b = (b == 47) ≡ false

mess_name : (n : ℕ) → n < 2 ^ 64 → IsName (path (Of Mess n))
unfolding path
mess_name n small = three_parts (codes "mess") n small
    (word_part (codes "mess") (omega arith) (omega arith) (All-from_recursion IsPositive (codes "mess") (omega arith, (omega arith, (omega arith, (omega arith, tt))))))
    (All-from_recursion IsNoSlash (codes "mess") (refl, (refl, (refl, (refl, tt)))))

intd_name : (n : ℕ) → n < 2 ^ 64 → IsName (path (Of Intd n))
unfolding path
intd_name n small = two_parts (codes "intd") n small
    (word_part (codes "intd") (omega arith) (omega arith) (All-from_recursion IsPositive (codes "intd") (omega arith, (omega arith, (omega arith, (omega arith, tt))))))
    (All-from_recursion IsNoSlash (codes "intd") (refl, (refl, (refl, (refl, tt)))))

todo_name : (n : ℕ) → n < 2 ^ 64 → IsName (path (Of Todo n))
unfolding path
todo_name n small = two_parts (codes "todo") n small
    (word_part (codes "todo") (omega arith) (omega arith) (All-from_recursion IsPositive (codes "todo") (omega arith, (omega arith, (omega arith, (omega arith, tt))))))
    (All-from_recursion IsNoSlash (codes "todo") (refl, (refl, (refl, (refl, tt)))))

module _ (d : Disk) (n : ℕ) (dirs : (dir : List ℕ) → Contains queue_dirs dir → Contains d.dirs dir) (small : n < 2 ^ 64) where
  pub mess_dir : HasDir d (path (Of Mess n))
  mess_dir = lies_there d Mess n dirs (mess_name n small)

  pub intd_dir : HasDir d (path (Of Intd n))
  intd_dir = lies_there d Intd n dirs (intd_name n small)

  pub todo_dir : HasDir d (path (Of Todo n))
  todo_dir = lies_there d Todo n dirs (todo_name n small)
