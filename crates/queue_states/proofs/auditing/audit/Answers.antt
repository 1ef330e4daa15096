use Rattle.std.proofs.Common.{◌≡◌, ◌-◌, [], ◌∷◌, List, ℕ, All, Contains, Option, codes, drop, take, length, sym, ◌∙◌, ap, subst}
use Rattle.mail_bytes.specs.Told.{OnTold}
use Rattle.call_fs.specs.Disk.{Disk}
use Rattle.queue_paths.specs.Dirs.{queue_dirs}
use Rattle.queue_states.specs.Audit.{HasQueueDirs, IsNameCount}
use Rattle.queue_states.specs.Found.{Gathers}
use Rattle.queue_states.proofs.Searches.{searched_then, failed_since, lacks_memory}
use Rattle.queue_states.proofs.Audits.{others, other_one, all_there, told_states}
use Rattle.queue_states.proofs.auditing.audit.Goals as goal

pub returns-in_err-gather_all-clause-searched : goal.returns-in_err-gather_all-clause-searched
returns-in_err-gather_all-clause-searched g c =
    let rest = others c.deref.result.now c.in_ok-dirs.dirs.items c.deref.ensures.value c.in_ok-dirs.ensures in
    failed_since _ queue_dirs _ _ _ c.in_err-gather_all.field-0.0 c.from_residual-in_err-gather_all.result c.from_residual-in_err-gather_all.ensures.1 c.in_ok-pids.ensures.searched.only (other_one _ rest) c.in_err-gather_all.ensures.searched

pub returns-in_err-states-clause-searched : goal.returns-in_err-states-clause-searched
returns-in_err-states-clause-searched g c =
    lacks_memory queue_dirs _ _ c.from_residual-in_err-states.result c.from_residual-in_err-states.ensures.1 (searched_then _ _ _ c.in_ok-pids.ensures.searched.only c.in_ok-gather_all.ensures.searched.only)

pub returns-clause-audited : goal.returns-clause-audited
returns-clause-audited g c =
    let rest = others c.deref.result.now c.in_ok-dirs.dirs.items c.deref.ensures.value c.in_ok-dirs.ensures in
    let same = c.in_ok-pids.ensures.searched.only.same in
    told_states _ _ same _ rest c.in_ok-pids.pids c.new-found.result c.gather_all.new.found c.in_ok-states.states c.new-found.ensures.empty c.states_of.ensures.ordered c.in_ok-states.ensures.states
    c.in_ok-pids.ensures.counted c.in_ok-pids.ensures.searched.there c.in_ok-gather_all.ensures.gathered c.in_ok-gather_all.ensures.searched.there

pub returns-clause-searched : goal.returns-clause-searched
returns-clause-searched g c =
    let rest = others c.deref.result.now c.in_ok-dirs.dirs.items c.deref.ensures.value c.in_ok-dirs.ensures in
    record {
      only = searched_then _ _ _ c.in_ok-pids.ensures.searched.only c.in_ok-gather_all.ensures.searched.only;
      there = all_there _ _ c.in_ok-pids.ensures.searched.only.same _ rest c.in_ok-pids.ensures.searched.there c.in_ok-gather_all.ensures.searched.there;
      why = tt;
    }
