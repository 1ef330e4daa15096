-- What `show` prints after a history is one text.
use Rattle.std.proofs.Common.{◌≡◌, ℕ, ◌≤◌, ◌<◌, ◌^◌, List, ◌++◌, Contains, sym, ap, ◌∙◌, arith}
use Rattle.std.specs.Prelude.{codes, flat_map}
use Rattle.std.specs.Ordering.{nat_cmp, ordering_reverse}
use Rattle.std.specs.Cmp.Lexicographic.{slice_cmp}
use Rattle.std.specs.declared.cmp.Ordering.TheVariants.{Less}
use Rattle.std.proofs.lemmas.Cmp.{nat_list_cmp_total}
use Rattle.std.proofs.lemmas.List.Elements.{All-contains}
use Rattle.std.proofs.lemmas.List.Kept.{AllPairs-from_increasing}
use Rattle.call_fs.specs.Disk.{Disk}
use Rattle.mail_world.specs.History.{Event, after}
use Rattle.scenario.specs.Shown.{AreNamesIn, AreNumbersIn, IsShown, pid_line, number_line, all_mail_lines}
use Rattle.scenario.proofs.OneOrder.{one_order}

not-both : (a b : List ℕ) → slice_cmp nat_cmp a b ≡ Less → slice_cmp nat_cmp b a ≡ Less → ⊥
not-both a b low high = let above = sym high ∙ nat_list_cmp_total.antisymm b a ∙ ap ordering_reverse low in absurd (cc)

one_names : (d : Disk) (dir : List ℕ) (xs ys : List (List ℕ)) → AreNamesIn d dir xs → AreNamesIn d dir ys → xs ≡ ys
one_names d dir xs ys p q =
    one_order (λ low high. slice_cmp nat_cmp low high ≡ Less) not-both xs ys p.rising q.rising
    (λ name. ((λ here. (q.each name).1 ((p.each name).0 here)), (λ here. (p.each name).1 ((q.each name).0 here))))

-- what one list has is a number that the other has
has-number : (d : Disk) (xs ys : List ℕ) → AreNumbersIn d xs → AreNumbersIn d ys → (n : ℕ) → Contains xs n → Contains ys n
has-number d xs ys p q n here =
    let range = All-contains (λ n. (1 ≤ n) × (n < 2 ^ 64)) xs n p.only here in
    (q.each n range.0 range.1).1 ((p.each n range.0 range.1).0 here)

one_numbers : (d : Disk) (xs ys : List ℕ) → AreNumbersIn d xs → AreNumbersIn d ys → xs ≡ ys
one_numbers d xs ys p q =
    one_order (λ low high. low < high) (λ x y low high. omega arith) xs ys (AllPairs-from_increasing xs p.rising) (AllPairs-from_increasing ys q.rising)
    (λ n. (has-number d xs ys p q n, has-number d ys xs q p n))

pub one_shown : (d : Disk) (h : List Event) (t u : List ℕ) → IsShown d h t → IsShown d h u → t ≡ u
one_shown d h t u p q =
    let now = (after d h).disk in
    let rest = all_mail_lines d h in
    p.text_is
    ∙ ap (λ (names : List (List ℕ)). pid_line names ++ (flat_map (number_line now) p.numbers ++ rest)) (one_names now (codes "pid") p.pids q.pids p.are_pids q.are_pids)
    ∙ ap (λ (numbers : List ℕ). pid_line q.pids ++ (flat_map (number_line now) numbers ++ rest)) (one_numbers now p.numbers q.numbers p.are_numbers q.are_numbers)
    ∙ sym q.text_is
