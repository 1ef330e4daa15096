use Rattle.std.proofs.Common.{Err, ap, codes, map, sym, ◌∙◌}
use Rattle.std.specs.String.{string_bytes}
use Rattle.std.specs.Option.{option_copied}
use Rattle.std.proofs.lemmas.Result.{IfOk-weaker, err_from_is_err_and}
use Rattle.std.specs.Option.{option_map}
use Rattle.command_words.specs.declared.command.Command.TheVariants.{Make, Qmqpd, Send, Audit, Clean, Lspawn, Rspawn, Local, Work}
use Rattle.command_words.specs.Reads.{dir_words}
use Rattle.command_words.proofs.Commands.{named, named_word, names_none}
use Rattle.command_words.proofs.read.read_words.Goals as goal

pub returns-in_default-clause-usage : goal.returns-in_default-clause-usage
returns-in_default-clause-usage c = λ usage. named _ _ (sym c.first.ensures.value ∙ ap option_copied c.in_default.is)

pub returns-in-play-clause-ok : goal.returns-in-play-clause-ok
returns-in-play-clause-ok c =
    let play = named_word _ c.in-Some.name.now _ (codes "play") (sym c.first.ensures.value ∙ ap option_copied c.in-Some.is) c.as_str.ensures.value c.in-play.is in
    IfOk-weaker c.read_play.result _ _ (λ command reads. play ∙ reads) c.read_play.ensures.ok

pub returns-in-play-clause-usage : goal.returns-in-play-clause-usage
returns-in-play-clause-usage c =
    let play = named_word _ c.in-Some.name.now _ (codes "play") (sym c.first.ensures.value ∙ ap option_copied c.in-Some.is) c.as_str.ensures.value c.in-play.is in
    λ usage. play ∙ c.read_play.ensures.usage usage

pub returns-in-queue-clause-ok : goal.returns-in-queue-clause-ok
returns-in-queue-clause-ok c =
    let queue = named_word _ c.in-Some.name.now _ (codes "queue") (sym c.first.ensures.value ∙ ap option_copied c.in-Some.is) c.as_str.ensures.value c.in-queue.is in
    IfOk-weaker c.read_queue.result _ _ (λ command reads. queue ∙ reads) c.read_queue.ensures.ok

pub returns-in-queue-clause-usage : goal.returns-in-queue-clause-usage
returns-in-queue-clause-usage c =
    let queue = named_word _ c.in-Some.name.now _ (codes "queue") (sym c.first.ensures.value ∙ ap option_copied c.in-Some.is) c.as_str.ensures.value c.in-queue.is in
    λ usage. queue ∙ c.read_queue.ensures.usage usage

pub returns-in_default-as_str-clause-usage : goal.returns-in_default-as_str-clause-usage
returns-in_default-as_str-clause-usage c =
    λ usage. names_none _ c.in-Some.name.now _ (sym c.first.ensures.value ∙ ap option_copied c.in-Some.is) c.as_str.ensures.value c.in_default-as_str.not-play c.in_default-as_str.not-queue c.in_default-as_str.not-send c.in_default-as_str.not-audit c.in_default-as_str.not-clean c.in_default-as_str.not-lspawn c.in_default-as_str.not-rspawn c.in_default-as_str.not-local c.in_default-as_str.not-make c.in_default-as_str.not-work c.in_default-as_str.not-qmqpd

pub returns-in_ok-read_send-in-send-clause-ok : goal.returns-in_ok-read_send-in-send-clause-ok
returns-in_ok-read_send-in-send-clause-ok c =
    let send = named_word _ c.in-Some.name.now _ (codes "send") (sym c.first.ensures.value ∙ ap option_copied c.in-Some.is) c.as_str.ensures.value c.in-send.is in
    send ∙ ap (option_map Send) c.in_ok-read_send-in-send.ensures.ok

pub returns-in_ok-read_rspawn-in-rspawn-clause-ok : goal.returns-in_ok-read_rspawn-in-rspawn-clause-ok
returns-in_ok-read_rspawn-in-rspawn-clause-ok c =
    let rspawn = named_word _ c.in-Some.name.now _ (codes "rspawn") (sym c.first.ensures.value ∙ ap option_copied c.in-Some.is) c.as_str.ensures.value c.in-rspawn.is in
    rspawn ∙ ap (option_map Rspawn) c.in_ok-read_rspawn-in-rspawn.ensures.ok

pub returns-in_ok-read_local-in-local-clause-ok : goal.returns-in_ok-read_local-in-local-clause-ok
returns-in_ok-read_local-in-local-clause-ok c =
    let local = named_word _ c.in-Some.name.now _ (codes "local") (sym c.first.ensures.value ∙ ap option_copied c.in-Some.is) c.as_str.ensures.value c.in-local.is in
    local ∙ ap (option_map Local) c.in_ok-read_local-in-local.ensures.ok

pub returns-in_ok-read_make-in-make-clause-ok : goal.returns-in_ok-read_make-in-make-clause-ok
returns-in_ok-read_make-in-make-clause-ok c =
    let make = named_word _ c.in-Some.name.now _ (codes "make") (sym c.first.ensures.value ∙ ap option_copied c.in-Some.is) c.as_str.ensures.value c.in-make.is in
    make ∙ ap (option_map Make) c.in_ok-read_make-in-make.ensures.ok

pub returns-in_ok-read_work-in-work-clause-ok : goal.returns-in_ok-read_work-in-work-clause-ok
returns-in_ok-read_work-in-work-clause-ok c =
    let work = named_word _ c.in-Some.name.now _ (codes "work") (sym c.first.ensures.value ∙ ap option_copied c.in-Some.is) c.as_str.ensures.value c.in-work.is in
    work ∙ ap (option_map Work) c.in_ok-read_work-in-work.ensures.ok

pub returns-in_ok-read_qmqpd-in-qmqpd-clause-ok : goal.returns-in_ok-read_qmqpd-in-qmqpd-clause-ok
returns-in_ok-read_qmqpd-in-qmqpd-clause-ok c =
    let qmqpd = named_word _ c.in-Some.name.now _ (codes "qmqpd") (sym c.first.ensures.value ∙ ap option_copied c.in-Some.is) c.as_str.ensures.value c.in-qmqpd.is in
    qmqpd ∙ ap (option_map Qmqpd) c.in_ok-read_qmqpd-in-qmqpd.ensures.ok

pub returns-in_ok-read_dir-in-audit-clause-ok : goal.returns-in_ok-read_dir-in-audit-clause-ok
returns-in_ok-read_dir-in-audit-clause-ok c =
    let audit = named_word _ c.in-Some.name.now _ (codes "audit") (sym c.first.ensures.value ∙ ap option_copied c.in-Some.is) c.as_str.ensures.value c.in-audit.is in
    audit ∙ ap (option_map Audit) (ap (λ l. dir_words l (map string_bytes c.args.words.now)) (sym c.in_ok-audit_line-in-audit.ensures) ∙ c.in_ok-read_dir-in-audit.ensures.ok)

pub returns-in_ok-read_dir-in-clean-clause-ok : goal.returns-in_ok-read_dir-in-clean-clause-ok
returns-in_ok-read_dir-in-clean-clause-ok c =
    let clean = named_word _ c.in-Some.name.now _ (codes "clean") (sym c.first.ensures.value ∙ ap option_copied c.in-Some.is) c.as_str.ensures.value c.in-clean.is in
    clean ∙ ap (option_map Clean) (ap (λ l. dir_words l (map string_bytes c.args.words.now)) (sym c.in_ok-clean_line-in-clean.ensures) ∙ c.in_ok-read_dir-in-clean.ensures.ok)

pub returns-in_ok-read_dir-in-lspawn-clause-ok : goal.returns-in_ok-read_dir-in-lspawn-clause-ok
returns-in_ok-read_dir-in-lspawn-clause-ok c =
    let lspawn = named_word _ c.in-Some.name.now _ (codes "lspawn") (sym c.first.ensures.value ∙ ap option_copied c.in-Some.is) c.as_str.ensures.value c.in-lspawn.is in
    lspawn ∙ ap (option_map Lspawn) (ap (λ l. dir_words l (map string_bytes c.args.words.now)) (sym c.in_ok-lspawn_line-in-lspawn.ensures) ∙ c.in_ok-read_dir-in-lspawn.ensures.ok)

pub returns-in_err-read_send-in-send-clause-usage : goal.returns-in_err-read_send-in-send-clause-usage
returns-in_err-read_send-in-send-clause-usage c =
    let send = named_word _ c.in-Some.name.now _ (codes "send") (sym c.first.ensures.value ∙ ap option_copied c.in-Some.is) c.as_str.ensures.value c.in-send.is in
    let told = err_from_is_err_and c.from_residual.result c.from_residual.ensures.1 in
    let gives = told.1 in
    let same = told.2 in
    λ is. send ∙ ap (option_map Send) (c.in_err-read_send-in-send.ensures.usage (ap Err (cc)))

pub returns-in_err-read_rspawn-in-rspawn-clause-usage : goal.returns-in_err-read_rspawn-in-rspawn-clause-usage
returns-in_err-read_rspawn-in-rspawn-clause-usage c =
    let rspawn = named_word _ c.in-Some.name.now _ (codes "rspawn") (sym c.first.ensures.value ∙ ap option_copied c.in-Some.is) c.as_str.ensures.value c.in-rspawn.is in
    let told = err_from_is_err_and c.from_residual-in_err-read_rspawn-in-rspawn.result c.from_residual-in_err-read_rspawn-in-rspawn.ensures.1 in
    let gives = told.1 in
    let same = told.2 in
    λ is. rspawn ∙ ap (option_map Rspawn) (c.in_err-read_rspawn-in-rspawn.ensures.usage (ap Err (cc)))

pub returns-in_err-read_local-in-local-clause-usage : goal.returns-in_err-read_local-in-local-clause-usage
returns-in_err-read_local-in-local-clause-usage c =
    let local = named_word _ c.in-Some.name.now _ (codes "local") (sym c.first.ensures.value ∙ ap option_copied c.in-Some.is) c.as_str.ensures.value c.in-local.is in
    let told = err_from_is_err_and c.from_residual-in_err-read_local-in-local.result c.from_residual-in_err-read_local-in-local.ensures.1 in
    let gives = told.1 in
    let same = told.2 in
    λ is. local ∙ ap (option_map Local) (c.in_err-read_local-in-local.ensures.usage (ap Err (cc)))

pub returns-in_err-read_make-in-make-clause-usage : goal.returns-in_err-read_make-in-make-clause-usage
returns-in_err-read_make-in-make-clause-usage c =
    let make = named_word _ c.in-Some.name.now _ (codes "make") (sym c.first.ensures.value ∙ ap option_copied c.in-Some.is) c.as_str.ensures.value c.in-make.is in
    let told = err_from_is_err_and c.from_residual-in_err-read_make-in-make.result c.from_residual-in_err-read_make-in-make.ensures.1 in
    let gives = told.1 in
    let same = told.2 in
    λ is. make ∙ ap (option_map Make) (c.in_err-read_make-in-make.ensures.usage (ap Err (cc)))

pub returns-in_err-read_work-in-work-clause-usage : goal.returns-in_err-read_work-in-work-clause-usage
returns-in_err-read_work-in-work-clause-usage c =
    let work = named_word _ c.in-Some.name.now _ (codes "work") (sym c.first.ensures.value ∙ ap option_copied c.in-Some.is) c.as_str.ensures.value c.in-work.is in
    let told = err_from_is_err_and c.from_residual-in_err-read_work-in-work.result c.from_residual-in_err-read_work-in-work.ensures.1 in
    let gives = told.1 in
    let same = told.2 in
    λ is. work ∙ ap (option_map Work) (c.in_err-read_work-in-work.ensures.usage (ap Err (cc)))

pub returns-in_err-read_qmqpd-in-qmqpd-clause-usage : goal.returns-in_err-read_qmqpd-in-qmqpd-clause-usage
returns-in_err-read_qmqpd-in-qmqpd-clause-usage c =
    let qmqpd = named_word _ c.in-Some.name.now _ (codes "qmqpd") (sym c.first.ensures.value ∙ ap option_copied c.in-Some.is) c.as_str.ensures.value c.in-qmqpd.is in
    let told = err_from_is_err_and c.from_residual-in_err-read_qmqpd-in-qmqpd.result c.from_residual-in_err-read_qmqpd-in-qmqpd.ensures.1 in
    let gives = told.1 in
    let same = told.2 in
    λ is. qmqpd ∙ ap (option_map Qmqpd) (c.in_err-read_qmqpd-in-qmqpd.ensures.usage (ap Err (cc)))

pub returns-in_err-read_dir-in-audit-clause-usage : goal.returns-in_err-read_dir-in-audit-clause-usage
returns-in_err-read_dir-in-audit-clause-usage c =
    let audit = named_word _ c.in-Some.name.now _ (codes "audit") (sym c.first.ensures.value ∙ ap option_copied c.in-Some.is) c.as_str.ensures.value c.in-audit.is in
    let told = err_from_is_err_and c.from_residual-in_err-read_dir-in-audit.result c.from_residual-in_err-read_dir-in-audit.ensures.1 in
    let gives = told.1 in
    let same = told.2 in
    λ is. audit ∙ ap (option_map Audit) (ap (λ l. dir_words l (map string_bytes c.args.words.now)) (sym c.in_ok-audit_line-in-audit.ensures) ∙ c.in_err-read_dir-in-audit.ensures.usage (ap Err (cc)))

pub returns-in_err-read_dir-in-clean-clause-usage : goal.returns-in_err-read_dir-in-clean-clause-usage
returns-in_err-read_dir-in-clean-clause-usage c =
    let clean = named_word _ c.in-Some.name.now _ (codes "clean") (sym c.first.ensures.value ∙ ap option_copied c.in-Some.is) c.as_str.ensures.value c.in-clean.is in
    let told = err_from_is_err_and c.from_residual-in_err-read_dir-in-clean.result c.from_residual-in_err-read_dir-in-clean.ensures.1 in
    let gives = told.1 in
    let same = told.2 in
    λ is. clean ∙ ap (option_map Clean) (ap (λ l. dir_words l (map string_bytes c.args.words.now)) (sym c.in_ok-clean_line-in-clean.ensures) ∙ c.in_err-read_dir-in-clean.ensures.usage (ap Err (cc)))

pub returns-in_err-read_dir-in-lspawn-clause-usage : goal.returns-in_err-read_dir-in-lspawn-clause-usage
returns-in_err-read_dir-in-lspawn-clause-usage c =
    let lspawn = named_word _ c.in-Some.name.now _ (codes "lspawn") (sym c.first.ensures.value ∙ ap option_copied c.in-Some.is) c.as_str.ensures.value c.in-lspawn.is in
    let told = err_from_is_err_and c.from_residual-in_err-read_dir-in-lspawn.result c.from_residual-in_err-read_dir-in-lspawn.ensures.1 in
    let gives = told.1 in
    let same = told.2 in
    λ is. lspawn ∙ ap (option_map Lspawn) (ap (λ l. dir_words l (map string_bytes c.args.words.now)) (sym c.in_ok-lspawn_line-in-lspawn.ensures) ∙ c.in_err-read_dir-in-lspawn.ensures.usage (ap Err (cc)))
