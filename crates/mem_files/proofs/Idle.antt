-- The greatest number that nothing uses.
use Rattle.std.proofs.Common.{◌≡◌, ◌≢◌, ◌⊎◌, ⊎_elim, ℕ, ◌+◌, ◌-◌, ◌^◌, ◌<◌, ◌≤◌, List, length, get_or, Some, sym, ap, ◌∙◌, subst, arith}
use Rattle.std.proofs.lemmas.Bool.{cases_lt, cases_eq}
use Rattle.std.proofs.lemmas.List.{get_or_default}
use Rattle.mem_files.specs.declared.file.Inode.{Inode}
use Rattle.mem_files.specs.Tables.{AreNumbersInOrder}
use Rattle.mem_files.specs.MemFiles.{IsIdle}
use Rattle.mem_files.proofs.Tables.{some_entry}
use Rattle.mem_files.proofs.NumberTable.{number-at}
use Rattle.mem_files.proofs.Counting.{AreUpTo, candidate_missing, higher_there, rise}
use Rattle.mem_files.proofs.FileTable.{idle-missing, idle-there, busy-there}

abbrev pub IsUsed : Inode → Type 0
IsUsed i = ¬ ((i.links ≡ 0) × (i.opens ≡ 0))

-- the numbers from place i on are the last ones, and each is used; this one is the next below
pub record AreBusyUpTo (files : List (ℕ × Inode)) (i number : ℕ) : Type 0 where
  pub within : i ≤ length files
  pub sum : number + (length files - i) + 1 ≡ 2 ^ 64
  pub up_to : AreUpTo (2 ^ 64) files i
  pub busy : (j : ℕ) (d : ℕ × Inode) → i ≤ j → j < length files → IsUsed (get_or files j d).1

module _ (files : List (ℕ × Inode)) (ordered : AreNumbersInOrder files) where
  pub higher_busy : (i number : ℕ) → AreBusyUpTo files i number → (m : ℕ) → number < m → m < 2 ^ 64 → ¬ (IsIdle files m)
  higher_busy i number so_far m above below idle =
      let d = some_entry files (omega (arith, so_far.sum, so_far.within)) in
      so_far.busy (length files - (2 ^ 64 - m)) d (omega (arith, so_far.sum, so_far.within)) (omega (arith, so_far.sum, so_far.within))
      (busy-there files m _ (higher_there files ordered (2 ^ 64) i number so_far.within so_far.sum so_far.up_to m above below d) idle)

  -- the candidate, by what stands below the place
  pub candidate_idle : (i number : ℕ) (e : ℕ × Inode) → 1 ≤ i → e ≡ get_or files (i - 1) e → e.0 < 2 ^ 64 → AreBusyUpTo files i number → (e.0 ≢ number) ⊎ ((e.1.links ≡ 0) × (e.1.opens ≡ 0)) → IsIdle files number
  candidate_idle i number e positive read fits so_far why =
      let within : i - 1 < length files = omega (arith, so_far.within) in
      ⊎_elim
      (λ (same : e.0 ≡ number). ⊎_elim
      (λ differs. absurd (differs same))
      (λ idle. idle-there files number e.1 (number-at files ordered number (i - 1) (record { within = within; has_key = λ d. ap (λ (x : ℕ × Inode). x.0) (get_or_default files (i - 1) d e within ∙ sym read) ∙ same }) e ∙ ap (λ (x : ℕ × Inode). Some x.1) (sym read)) idle)
      why)
      (λ differs. idle-missing files number (candidate_missing files ordered (2 ^ 64) i number so_far.within so_far.sum so_far.up_to (λ d _.
      let key : (get_or files (i - 1) d).0 ≡ e.0 = ap (λ (x : ℕ × Inode). x.0) (get_or_default files (i - 1) d e within ∙ sym read) in
      ((λ is. differs (sym key ∙ is)), omega (arith, key, fits)))))
      (cases_eq e.0 number)

  pub candidate_positive : (i number : ℕ) (d : ℕ × Inode) → 1 ≤ i → AreBusyUpTo files i number → 1 ≤ number
  candidate_positive i number d positive so_far =
      ⊎_elim
      (λ inside. omega (arith, so_far.up_to i d (omega arith) inside, rise files ordered (i - 1) i d (omega arith) inside, ordered.positive (i - 1) d (omega arith), so_far.sum))
      (λ outside. omega (arith, so_far.sum))
      (cases_lt i (length files))

  pub candidate_below_all : (number : ℕ) → AreBusyUpTo files 0 number → IsIdle files number
  candidate_below_all number so_far = idle-missing files number (candidate_missing files ordered (2 ^ 64) 0 number so_far.within so_far.sum so_far.up_to (λ d positive. absurd (omega arith)))

pub busy_up_to_none : (files : List (ℕ × Inode)) → AreBusyUpTo files (length files) (2 ^ 64 - 1)
busy_up_to_none files = record {
  within = omega arith;
  sum = omega arith;
  up_to = λ j d le lt. absurd (omega arith);
  busy = λ j d le lt. absurd (omega arith);
}

pub busy_up_to_more : (files : List (ℕ × Inode)) (i number : ℕ) (e : ℕ × Inode) → 1 ≤ i → 1 ≤ number → e ≡ get_or files (i - 1) e → e.0 ≡ number → IsUsed e.1 → AreBusyUpTo files i number → AreBusyUpTo files (i - 1) (number - 1)
busy_up_to_more files i number e positive above read is used so_far =
    let within : i - 1 < length files = omega (arith, so_far.within) in
    record {
      within = omega arith;
      sum = omega (arith, so_far.sum, so_far.within);
      up_to = λ j d le lt. ⊎_elim
          (λ low.
          let here : j ≡ i - 1 = omega arith in
          let key : (get_or files j d).0 ≡ number = ap (λ n. (get_or files n d).0) here ∙ ap (λ (x : ℕ × Inode). x.0) (get_or_default files (i - 1) d e within ∙ sym read) ∙ is in
          omega (arith, key, so_far.sum, so_far.within))
          (λ high. so_far.up_to j d high lt)
          (cases_lt j i);
      busy = λ j d le lt. ⊎_elim
          (λ low. let here : j ≡ i - 1 = omega arith in
          subst (λ (x : ℕ × Inode). IsUsed x.1) (read ∙ get_or_default files (i - 1) e d within ∙ ap (λ n. get_or files n d) (sym here)) used)
          (λ high. so_far.busy j d high lt)
          (cases_lt j i);
    }
