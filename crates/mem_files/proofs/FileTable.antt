-- The files of a disk in memory, by number: what a change of one entry does, and which numbers are idle.
use Rattle.std.proofs.Common.{◌≡◌, ℕ, List, get_or, set, Some, None, unwrap_or, sym, ap, ◌∙◌, subst}
use Rattle.std.specs.Option.{option_map}
use Rattle.mem_files.specs.declared.file.Inode.{Inode}
use Rattle.call_fs.specs.Disk.{File}
use Rattle.call_fs.specs.Maps.{put}
use Rattle.mem_files.specs.Tables.{at_number, AreNumbersInOrder, IsAt}
use Rattle.mem_files.specs.MemFiles.{links_of, holds_of, IsIdle, Changes, on_file}
use Rattle.mem_files.proofs.NumberTable.{number-at, number-set, numbers-set}

-- what the table says of a number that has an entry, and of one that has none
pub links-there : (files : List (ℕ × Inode)) (n : ℕ) (i : Inode) → at_number files n ≡ Some i → links_of files n ≡ i.links
links-there files n i found = ap (λ o. unwrap_or (option_map (λ (e : Inode). e.links) o) 0) found

pub holds-there : (files : List (ℕ × Inode)) (n : ℕ) (i : Inode) → at_number files n ≡ Some i → holds_of files n ≡ i.opens
holds-there files n i found = ap (λ o. unwrap_or (option_map (λ (e : Inode). e.opens) o) 0) found

pub idle-missing : (files : List (ℕ × Inode)) (n : ℕ) → at_number files n ≡ None → IsIdle files n
idle-missing files n none = (ap (λ o. unwrap_or (option_map (λ (e : Inode). e.links) o) 0) none, ap (λ o. unwrap_or (option_map (λ (e : Inode). e.opens) o) 0) none)

pub idle-there : (files : List (ℕ × Inode)) (n : ℕ) (i : Inode) → at_number files n ≡ Some i → (i.links ≡ 0) × (i.opens ≡ 0) → IsIdle files n
idle-there files n i found idle = (links-there files n i found ∙ idle.0, holds-there files n i found ∙ idle.1)

pub busy-there : (files : List (ℕ × Inode)) (n : ℕ) (i : Inode) → at_number files n ≡ Some i → IsIdle files n → (i.links ≡ 0) × (i.opens ≡ 0)
busy-there files n i found idle = (sym (links-there files n i found) ∙ idle.0, sym (holds-there files n i found) ∙ idle.1)

-- the entry that was read is the number's
pub read_entry : (files : List (ℕ × Inode)) → AreNumbersInOrder files → (n at : ℕ) → IsAt files n at → (item : ℕ × Inode) → item ≡ get_or files at item → at_number files n ≡ Some item.1
read_entry files ordered n at is item read = number-at files ordered n at is item ∙ ap (λ (e : ℕ × Inode). Some e.1) (sym read)

-- to write over the entry of a number is to change it
pub changes-set : (files : List (ℕ × Inode)) → AreNumbersInOrder files → (n at : ℕ) → IsAt files n at → (item : ℕ × Inode) → item ≡ get_or files at item → (change : Inode → Inode)
    → Changes files (set files at (item.0, change item.1)) n change
changes-set files ordered n at is item read change =
    let key : item.0 ≡ n = ap (λ (e : ℕ × Inode). e.0) read ∙ is.has_key item in
    let found = read_entry files ordered n at is item read in
    record {
      in_order = subst (λ (k : ℕ). AreNumbersInOrder (set files at (k, change item.1))) (sym key) (numbers-set files ordered n at is (change item.1));
      value = λ i had.
          let same : item.1 ≡ i = cc in
          ap (λ (k : ℕ). at_number (set files at (k, change item.1))) key ∙ number-set files ordered n at is (change item.1) ∙ ap (λ (e : Inode). put (at_number files) n (Some (change e))) same;
    }

-- the same of a change of the file alone
pub changes-file : (files : List (ℕ × Inode)) → AreNumbersInOrder files → (n at : ℕ) → IsAt files n at → (item : ℕ × Inode) → item ≡ get_or files at item → (change : File → File) (file : File) → file ≡ change item.1.file
    → Changes files (set files at (item.0, record { links = item.1.links; opens = item.1.opens; file = file })) n (on_file change)
changes-file files ordered n at is item read change file made =
    subst (λ (f : File). Changes files (set files at (item.0, record { links = item.1.links; opens = item.1.opens; file = f })) n (on_file change)) (sym made)
    (changes-set files ordered n at is item read (on_file change))
