use Rattle.std.proofs.Common.{◌≡◌, List, ℕ, ◌++◌, map, length, arith, Bor, ap, ◌∙◌, subst}
use Rattle.std.specs.Prelude.{flat_map, codes}
use Rattle.std.proofs.lemmas.List.{length-map}
use Rattle.std.proofs.lemmas.Result.{on_ok_weaker}
use Rattle.mail_bytes.specs.Decimal.{digits}
use Rattle.call_fs.specs.Disk.{Disk}
use Rattle.crash_fs.specs.Crash.{Crash, crash_disk}
use Rattle.mem_fs.specs.MemDisk.{Planned, disk_of}
use Rattle.scenario.specs.Deeds.{history_of}
use Rattle.scenario.specs.Shown.{AreNamesIn, AreNumbersIn, line_of, pid_line, number_line}
use Rattle.scenario.proofs.Showings.{joined, is_shown}
use Rattle.scenario.proofs.showing.show.Goals as goal

pub returns : goal.returns
returns c =
    let w = c.args.world.now in
    let text : List ℕ = c.args.text.now.items in
    let now : Disk = crash_disk w.disk in
    let bytes : Bor (List ℕ) → List ℕ = λ b. b.now in
    let pids : List (List ℕ) = map bytes c.in_ok-pids.pids.items in
    let numbers : List ℕ = c.in_ok-numbers.numbers.items in
    let all : length pids ≡ length c.in_ok-pids.pids.items = length-map c.in_ok-pids.pids.items bytes in
    let count : c.len.result ≡ length pids = omega (arith, c.len.ensures, all, c.in_ok-pids.pids.ok.0) in
    let first : c.put_count_line.new.text.items ≡ text ++ pid_line pids =
    c.in_ok-put_count_line.ensures ∙ ap (λ n. text ++ line_of (codes "pid") (digits n)) count in
    let second : c.put_states.new.text.items ≡ c.put_count_line.new.text.items ++ flat_map (number_line now) numbers =
    c.in_ok-put_states.ensures
    ∙ ap (λ (m : Crash). c.put_count_line.new.text.items ++ flat_map (number_line (crash_disk m)) c.deref.result.now) c.disk-3.ensures
    ∙ ap (λ (ns : List ℕ). c.put_count_line.new.text.items ++ flat_map (number_line now) ns) c.deref.ensures.value in
    let first_is : disk_of c.below.result.now.held ≡ now = ap (λ (m : Planned). disk_of m.held) c.below.ensures ∙ ap (λ (m : Crash). crash_disk m) c.disk.ensures in
    let second_is : disk_of c.below-2.result.now.held ≡ now = ap (λ (m : Planned). disk_of m.held) c.below-2.ensures ∙ ap (λ (m : Crash). crash_disk m) c.disk-2.ensures in
    let are_pids : AreNamesIn now (codes "pid") pids = subst (λ d. AreNamesIn d (codes "pid") pids) first_is c.in_ok-pids.ensures in
    let are_numbers : AreNumbersIn now numbers = subst (λ d. AreNumbersIn d numbers) second_is c.in_ok-numbers.ensures in
    on_ok_weaker c.put_mails.result
    (λ third. (
      pid_line pids ++ (flat_map (number_line now) numbers ++ third.0),
      joined text c.put_count_line.new.text.items c.put_states.new.text.items c.put_mails.new.text.items (pid_line pids) (flat_map (number_line now) numbers) third.0
          first second third.1,
      λ d plan h playing. is_shown d (history_of h) now w.present w.events pids numbers third.0 playing.is are_pids are_numbers (third.2 d plan h playing),
    ))
    c.put_mails.ensures
