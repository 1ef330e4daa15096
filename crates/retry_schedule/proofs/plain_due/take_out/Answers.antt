use Rattle.std.proofs.Common.{◌≡◌, ◌<◌, length, vec_len, rules, eqb, not, sym, ap, ◌∙◌, subst, arith}
use Rattle.std.proofs.lemmas.Fn.{filter_same}
use Rattle.retry_schedule.specs.Due.{IsSchedule, HasNoEntry, removed}
use Rattle.retry_schedule.proofs.Entries.{schedule_removed, free_removed, fewer}
use Rattle.retry_schedule.proofs.plain_due.take_out.Goals as goal

pub returns-clause-items : goal.returns-clause-items
returns-clause-items c = filter_same _ (λ e. not (eqb e.1 c.args.n)) _ (λ x b f' k. search rules) c.args.entries.now.items _ c.retain.ensures.filtered

pub returns-clause-schedule : goal.returns-clause-schedule
returns-clause-schedule c =
    let is : c.retain.new.self.items ≡ removed c.args.n c.args.entries.now.items = filter_same _ (λ e. not (eqb e.1 c.args.n)) _ (λ x b f' k. search rules) c.args.entries.now.items _ c.retain.ensures.filtered in
    subst IsSchedule (sym is) (schedule_removed c.args.n c.args.entries.now.items c.requires.schedule)

pub returns-clause-free : goal.returns-clause-free
returns-clause-free c =
    let is : c.retain.new.self.items ≡ removed c.args.n c.args.entries.now.items = filter_same _ (λ e. not (eqb e.1 c.args.n)) _ (λ x b f' k. search rules) c.args.entries.now.items _ c.retain.ensures.filtered in
    subst (HasNoEntry c.args.n) (sym is) (free_removed c.args.n c.args.entries.now.items)

pub returns-clause-less : goal.returns-clause-less
returns-clause-less c = λ h.
    let is : c.retain.new.self.items ≡ removed c.args.n c.args.entries.now.items = filter_same _ (λ e. not (eqb e.1 c.args.n)) _ (λ x b f' k. search rules) c.args.entries.now.items _ c.retain.ensures.filtered in
    let before : length c.args.entries.now.items ≡ vec_len c.args.entries.now = ap length (sym c.as_slice-all.ensures.value) ∙ c.as_slice-all.ensures.len in
    let after : length (removed c.args.n c.args.entries.now.items) ≡ vec_len c.retain.new.self = ap length (sym (c.as_slice.ensures.value ∙ is)) ∙ c.as_slice.ensures.len in
    let few : length (removed c.args.n c.args.entries.now.items) < length c.args.entries.now.items = fewer c.args.n c.args.entries.now.items h in
    omega arith
