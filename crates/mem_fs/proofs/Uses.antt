-- What uses a number, and how its entry counts that.
use Rattle.std.proofs.Common.{◌≡◌, ◌≢◌, ⊎_elim, ℕ, suc, ◌^◌, ◌↔◌, IsTrue, ◌<◌, ◌≤◌, Bool, true, false, cond, List, [], ◌∷◌, length, get_or, filter, Option, Some, None, IsSome, unwrap_or, nat_eq, bytes_eq, refl, ap, ◌∙◌, arith}
use Rattle.std.specs.Option.{option_map, IfSome, IfNone}
use Rattle.std.proofs.lemmas.Bool.Decides.{Decides-eqb}
use Rattle.std.proofs.lemmas.Bool.{cases_eq}
use Rattle.std.proofs.lemmas.List.{get_or_default}
use Rattle.std.proofs.lemmas.List.Sums.{sum_by-remove, length-filter}
use Rattle.mem_files.specs.declared.file.Inode.{Inode}
use Rattle.call_fs.specs.Disk.{Open, IsUnused}
use Rattle.call_fs.specs.declared.modes.Mode.{Mode}
use Rattle.mem_files.specs.Tables.{at_number}
use Rattle.mem_fs.specs.Tables.{at_name}
use Rattle.call_fs.specs.Free.{IsFree, IsLeastFree, IsGreatestFree}
use Rattle.mem_files.specs.MemFiles.{links_of, holds_of, IsIdle}
use Rattle.mem_fs.specs.MemDisk.{Held, disk_of, count_of, names_of, opens_counted, IsSound, NoneFree}
use Rattle.call_fs.proofs.Maps.{bytes_eq-decides}
use Rattle.mem_files.proofs.Tables.{place_of_found}
use Rattle.mem_fs.proofs.NameTable.{name-at}
use Rattle.mem_files.proofs.NumberTable.{number-at}

-- ---- counts

-- an entry of the number is counted
count-there : {K V : Type 0} (number : V → ℕ) (es : List (K × V)) (n i : ℕ) (e : K × V) → i < length es → get_or es i e ≡ e → number e.1 ≡ n → 1 ≤ count_of number es n
count-there number es n i e within read is =
    let here : ◌≡◌ {A = ℕ} (cond (nat_eq (number (get_or es i e).1) n) 1 0) 1 = ap (λ (b : Bool). cond b 1 0) ((Decides-eqb (number (get_or es i e).1) n).1 (ap (λ (x : _ × _). number x.1) read ∙ is)) in
    omega (arith, sum_by-remove (λ x. cond (nat_eq (number x.1) n) 1 0) es i e within, here)

-- what is counted has an entry
passes : {X : Type 0} (p : X → Bool) (xs : List X) → 1 ≤ length (filter p xs) → (i : ℕ) × (i < length xs) × ((d : X) → p (get_or xs i d) ≡ true)
passes p [] h = absurd (omega arith)
passes {X} p (x ∷ xs) h =
    elim (p x) as (λ b. p x ≡ b → 1 ≤ length (cond b (x ∷ filter p xs) (filter p xs)) → (i : ℕ) × (i < suc (length xs)) × ((d : X) → p (get_or (x ∷ xs) i d) ≡ true)) [
      | true ↦ λ t s. (0, omega arith, λ d. t)
      | false ↦ λ t s. let deeper = passes p xs s in (suc deeper.0, omega (arith, deeper.1), deeper.2)
    ] refl h

counted : {K V : Type 0} (number : V → ℕ) (es : List (K × V)) (n : ℕ) → 1 ≤ count_of number es n → (i : ℕ) × (i < length es) × ((d : K × V) → number (get_or es i d).1 ≡ n)
counted number es n h =
    let p : _ × _ → Bool = λ e. nat_eq (number e.1) n in
    let found = passes p es (omega (arith, length-filter p es)) in
    (found.0, found.1, λ d. (Decides-eqb (number (get_or es found.0 d).1) n).0 (found.2 d))

pub name_counted : (names : List (List ℕ × ℕ)) (name : List ℕ) (n : ℕ) → at_name names name ≡ Some n → 1 ≤ names_of names n
name_counted names name n found =
    let place = place_of_found bytes_eq bytes_eq-decides names name n found in
    count-there (λ (k : ℕ). k) names n place.0 (name, n) place.1 (place.2 (name, n)) refl

pub open_counted : (opens : List (ℕ × Open)) (fd : ℕ) (o : Open) → at_number opens fd ≡ Some o → 1 ≤ opens_counted opens o.number
open_counted opens fd o found =
    let place = place_of_found nat_eq Decides-eqb opens fd o found in
    count-there (λ (x : Open). x.number) opens o.number place.0 (fd, o) place.1 (place.2 (fd, o)) refl

-- ---- entries

pub entry_of_links : (files : List (ℕ × Inode)) (n : ℕ) → 1 ≤ links_of files n → IsSome (at_number files n)
entry_of_links files n h =
    elim (at_number files n) as (λ (o : Option Inode). 1 ≤ unwrap_or (option_map (λ (i : Inode). i.links) o) 0 → IsSome o) [ None ↦ λ t. absurd (omega arith) | Some i ↦ λ t. refl ] h

pub entry_of_holds : (files : List (ℕ × Inode)) (n : ℕ) → 1 ≤ holds_of files n → IsSome (at_number files n)
entry_of_holds files n h =
    elim (at_number files n) as (λ (o : Option Inode). 1 ≤ unwrap_or (option_map (λ (i : Inode). i.opens) o) 0 → IsSome o) [ None ↦ λ t. absurd (omega arith) | Some i ↦ λ t. refl ] h

-- ---- what is used

module _ (h : Held) (sound : IsSound h) where
  pub named_links : (name : List ℕ) (n : ℕ) → at_name h.names name ≡ Some n → 1 ≤ links_of h.files n
  named_links name n found = omega (arith, name_counted h.names name n found, sound.links n)

  pub named_entry : (name : List ℕ) (n : ℕ) → at_name h.names name ≡ Some n → IsSome (at_number h.files n)
  named_entry name n found = entry_of_links h.files n (named_links name n found)

  pub opened_holds : (fd : ℕ) (o : Open) → at_number h.opens fd ≡ Some o → 1 ≤ holds_of h.files o.number
  opened_holds fd o found = omega (arith, open_counted h.opens fd o found, sound.holds o.number)

  pub opened_entry : (fd : ℕ) (o : Open) → at_number h.opens fd ≡ Some o → IsSome (at_number h.files o.number)
  opened_entry fd o found = entry_of_holds h.files o.number (opened_holds fd o found)

  -- a number that its entry gives a name has one
  pub linked_name : (n : ℕ) → 1 ≤ links_of h.files n → (name : List ℕ) × (at_name h.names name ≡ Some n)
  linked_name n some =
      let found = counted (λ (k : ℕ). k) h.names n (omega (arith, sound.links n, some)) in
      let name = (get_or h.names found.0 ([], 0)).0 in
      (name, name-at h.names sound.names found.0 found.1 ([], 0) ∙ ap (λ (m : ℕ). Some m) (found.2 ([], 0)))

  -- a number that nothing uses is idle, and the other way round
  pub unused_idle : (n : ℕ) → IsUnused (disk_of h) n → IsIdle h.files n
  unused_idle n unused = (
    zero_of (links_of h.files n) (λ some. let name = linked_name n some in unused.unnamed name.0 name.1),
    zero_of (holds_of h.files n) (λ some.
        let found = counted (λ (o : Open). o.number) h.opens n (omega (arith, sound.holds n, some)) in
        let fd = (get_or h.opens found.0 none).0 in
        unused.unopened fd (get_or h.opens found.0 none).1
        (number-at h.opens sound.opens fd found.0 (record { within = found.1; has_key = λ d. number_same found.0 found.1 d }) none) (found.2 none)),
  )
    where
      zero_of : (m : ℕ) → (1 ≤ m → ⊥) → m ≡ 0
      zero_of m not = ⊎_elim (λ (is : m ≡ 0). is) (λ differs. absurd (not (omega arith))) (cases_eq m 0)

      none : ℕ × Open
      none = (0, record { number = 0; mode = Mode.Created })

      number_same : (i : ℕ) → i < length h.opens → (d : ℕ × Open) → (get_or h.opens i d).0 ≡ (get_or h.opens i none).0
      number_same i within d = ap (λ (e : ℕ × Open). e.0) (get_or_default h.opens i d none within)

  pub idle_unused : (n : ℕ) → IsIdle h.files n → IsUnused (disk_of h) n
  idle_unused n idle = record {
    unnamed = λ name found. omega (arith, named_links name n found, idle.0);
    unopened = λ fd o found is. omega (arith, opened_holds fd o found, idle.1, ap (λ m. holds_of h.files m) is);
  }

-- ---- which numbers are free

pub is_free_from : {h : Held} → IsSound h → (n : ℕ) (b : Bool) → n ≢ 0 → IsTrue b ↔ IsIdle h.files n → IsTrue b ↔ IsFree (disk_of h) n
is_free_from {h} sound n b positive idle = ((λ t. (omega arith, idle_unused h sound n (idle.0 t))), λ free. idle.1 (unused_idle h sound n free.1))

pub least_free_from : {h : Held} → IsSound h → (o : Option ℕ) → IfSome o (λ n. (1 ≤ n) × IsIdle h.files n × ((lower : ℕ) → 1 ≤ lower → lower < n → ¬ (IsIdle h.files lower))) → IfSome o (IsLeastFree (disk_of h))
least_free_from sound None found = tt
least_free_from {h} sound (Some n) found = record {
  free = (found.0, idle_unused h sound n found.1);
  least = λ m lt free. found.2 m free.0 lt (unused_idle h sound m free.1);
}

pub greatest_free_from : {h : Held} → IsSound h → (o : Option ℕ) → IfSome o (λ n. n < 2 ^ 64) → IfSome o (λ n. (1 ≤ n) × IsIdle h.files n × ((higher : ℕ) → n < higher → higher < 2 ^ 64 → ¬ (IsIdle h.files higher))) → IfSome o (IsGreatestFree (disk_of h))
greatest_free_from sound None fits found = tt
greatest_free_from {h} sound (Some n) fits found = record {
  free = (found.0, idle_unused h sound n found.1);
  in_range = fits;
  greatest = λ m above below free. found.2 m above below (unused_idle h sound m free.1);
}

pub none_free_from : {h : Held} → IsSound h → (o : Option ℕ) → IfNone o ((n : ℕ) → 1 ≤ n → n < 2 ^ 64 → ¬ (IsIdle h.files n)) → IfNone o (NoneFree (disk_of h))
none_free_from {h} sound None none = λ n below free. none n free.0 below (unused_idle h sound n free.1)
none_free_from sound (Some n) none = tt
