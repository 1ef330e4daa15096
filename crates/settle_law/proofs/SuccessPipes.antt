-- Where each report that a spawner gave is of a success, so is each that lies in its pipe or was taken, by the pasts of the spawner and of the sender.
use Rattle.std.proofs.Common.{◌≡◌, ℕ, List, [], ◌∷◌, ◌++◌, true, Option, Some, None, refl, sym, ap, ◌∙◌, subst, append_assoc, eqb-true}
use Rattle.std.specs.Prelude.{All}
use Rattle.std.proofs.lemmas.List.Elements.{All-cons, All-head, All-nil, All-push, All-tail}
use Rattle.call_fs.specs.Past.{IsRunBy}
use Rattle.call_fs.specs.declared.past.ChildData.{ChildData}
use Rattle.call_fs.specs.declared.past.GotData.{GotData}
use Rattle.call_fs.specs.declared.past.GotData.TheVariants as came
use Rattle.call_fs.specs.declared.past.NeedData.{NeedData}
use Rattle.call_fs.specs.declared.past.NeedData.TheVariants as needs
use Rattle.call_fs.specs.declared.past.Own.{Own}
use Rattle.call_fs.specs.declared.program.Port.TheVariants as port
use Rattle.call_fs.specs.declared.program.Ready.{Ready}
use Rattle.local_spawn.specs.declared.place.Place.{Place as LocalPlace}
use Rattle.local_spawn.specs.declared.row.Row.{Row as LocalRow}
use Rattle.local_spawn.specs.declared.row.Row.TheVariants as local_at
use Rattle.local_spawn.specs.Table as local
use Rattle.program_law.proofs.Post.Readings.{gives_more, report_more}
use Rattle.program_law.proofs.Post.Told.{said, said_is, said_text}
use Rattle.program_law.specs.Post.Posts.{asked_by, told_by}
use Rattle.program_law.specs.Post.Senders.{asked_on, told_on}
use Rattle.remote_spawn.specs.Table as remote
use Rattle.send_core.proofs.Lists.{news_are}
use Rattle.send_core.specs.Past.{account, news, reports_in}
use Rattle.send_known.specs.declared.channel.Channel.{Channel}
use Rattle.send_known.specs.declared.channel.Channel.TheVariants.{Local, Remote}
use Rattle.spawn_protocol.specs.Report.{Reader, counted, kept, read_on}
use Rattle.spawn_protocol.specs.Report.Reader.{AtBegin}
use Rattle.spawn_protocol.specs.declared.report.Report.{Report}
use Rattle.spawner_parts.specs.Counts.{reported}
use Rattle.spawner_parts.specs.Table.{due_at, greeting, row_now}
use Rattle.spawner_parts.specs.declared.place.Place.{Place}
use Rattle.spawner_parts.specs.declared.row.Row.{Row}
use Rattle.spawner_parts.specs.declared.row.Row.TheVariants as at
use Rattle.world_law.specs.Spawned.{stands_after}
use Rattle.settle_law.specs.inside.Succeeded.{IsSuccess}
use Rattle.settle_law.specs.Well.{tells_success}
use Rattle.settle_law.proofs.Carried.{IsHeard, Posts, sent_given, sent_posts, served_given, served_posts}
use Rattle.settle_law.proofs.Flying.{first, first_given}
use Rattle.settle_law.proofs.Greeted.{IsTaken}
use Rattle.settle_law.proofs.PipeEvents.{IsKept, IsSent, IsServed}
use Rattle.settle_law.proofs.Says.{IsWhole, Says, Speaks, comes}
use Rattle.settle_law.proofs.Spawns.{next_on, says_on, tells_on}

-- What a spawner gives

abbrev pub AllTell : List Own → Type 0
AllTell [] = Unit {0}
AllTell (own ∷ mine) = AllTell mine × (tells_success own.due ≡ true)

-- each report of what was given is of a success
abbrev pub AllWere : List ℕ → Type 0
AllWere given = (texts : List ℕ) → given ≡ greeting ++ texts → All IsSuccess (read_on AtBegin texts).0

-- its first byte, or a whole report
data Gift (given told text : List ℕ) : Type 0 where
  First : given ≡ [] → text ≡ greeting → Gift given told text
  Reported : Speaks given told → IsWhole text → Gift given told text

gift_at : (program : ChildData) (p : Place) (row : Row) (given told text : List ℕ) → Says row p given told → due_at program row p ≡ needs.Give port.Output text → Gift given told text
gift_at program p at.Greet given told text h e = First h.0 (cc)
gift_at program p at.Report given told text h e = let same : p.report ≡ text = cc in Reported h.0 (subst IsWhole same h.1)
gift_at program p row given told text h e = absurd (cc)

local_gift : (row : LocalRow) (l : LocalPlace) (ready : Ready) (given told text : List ℕ) → Says l.work.row l.work given told → local.due_at row ready l ≡ needs.Give port.Output text → Gift given told text
local_gift local_at.Serves l ready given told text h e = gift_at (local.program_of l) l.work (row_now l.work ready) given told text (comes l.work.row l.work ready given told h) e
local_gift row l ready given told text h e = absurd (cc)

gift_on : (c : Channel) (mine : List Own) (own : Own) (given text : List ℕ) → IsRunBy (next_on c) (own ∷ mine) → Says (stands_after c mine).row (stands_after c mine) given (reported mine)
    → own.due ≡ needs.Give port.Output text → Gift given (reported mine) text
gift_on Local mine own given text run says e = let l = local.place_after mine in local_gift l.row l own.ready given (reported mine) text says (run.1.0 ∙ e)
gift_on Remote mine own given text run says e =
    let p = remote.place_after mine in
    gift_at (remote.program_of p.request) p (row_now p own.ready) given (reported mine) text (comes p.row p own.ready given (reported mine) says) (run.1.0 ∙ e)

-- a report that tells of a success is of one
success_of : (slot : ℕ) (text : List ℕ) → tells_success (needs.Give port.Output (slot ∷ (text ++ 0 ∷ []))) ≡ true → IsSuccess (kept (said slot text))
success_of slot [] e = absurd (cc)
success_of slot (letter ∷ text) e = ap counted (eqb-true letter 75 e)

were_more : (given told text : List ℕ) → Gift given told text → tells_success (needs.Give port.Output text) ≡ true → AllWere given → AllWere (given ++ text)
were_more given told text (First none is) tells were texts e =
    let whole : greeting ≡ greeting ++ texts = sym is ∙ ap (λ (t : List ℕ). t ++ text) (sym none) ∙ e in
    let left : texts ≡ [] = cc in
    subst (λ (t : List ℕ). All IsSuccess (read_on AtBegin t).0) (sym left) (All-nil IsSuccess)
were_more given told text (Reported S W) tells were texts e =
    subst (λ (rs : List Report). All IsSuccess rs) (sym reads)
    (All-push IsSuccess (read_on AtBegin S.texts).0 (kept r) (were S.texts S.is) (success_of W.slot W.text (subst (λ (t : List ℕ). tells_success (needs.Give port.Output t) ≡ true) W.is tells)))
  where
    r : Report
    r = said W.slot W.text

    begins : (read_on AtBegin S.texts).1 ≡ AtBegin
    begins = ap (λ (s : List Report × Reader). s.1) S.read

    both : greeting ++ texts ≡ greeting ++ (S.texts ++ text)
    both = sym e ∙ ap (λ (t : List ℕ). t ++ text) S.is ∙ append_assoc greeting S.texts text

    rest : texts ≡ S.texts ++ text
    rest = cc both

    reads : (read_on AtBegin texts).0 ≡ (read_on AtBegin S.texts).0 ++ kept r ∷ []
    reads = ap (λ (t : List ℕ). (read_on AtBegin t).0) (rest ∙ ap (λ (t : List ℕ). S.texts ++ t) (W.is ∙ said_text W.slot W.text W.plain))
        ∙ ap (λ (s : List Report × Reader). s.0) (report_more AtBegin S.texts r (said_is W.slot W.text W.plain) begins)

-- An event of the spawner

were_by : (due : NeedData) (got : GotData) (wrote : ℕ) (given : List ℕ) → ((text : List ℕ) → due ≡ needs.Give port.Output text → (got ≡ came.Gave) × AllWere (given ++ text)) → AllWere given
    → AllWere (told_by due got wrote given)
were_by (needs.Give port.Output text) came.Gave wrote given gives were = (gives text refl).1
were_by (needs.Give port.Output text) came.Failed wrote given gives were = let bad = (gives text refl).0 in absurd (cc)
were_by due got wrote given gives were = were

-- In each state

abbrev pub Told : Channel → Option (List Own) → Option (List Own) → (told asks : List ℕ) → Type 0
Told c (Some past) (Some mine) told asks = (P : Posts c past mine told asks) × (AllTell mine → AllWere P.given)
Told c sends spawns told asks = Unit {0}

first_were : (given : List ℕ) → given ≡ [] → AllWere given
first_were given none texts e = let bad : [] ≡ greeting ++ texts = sym none ∙ e in absurd (cc)

first_told : (c : Channel) → Told c (Some []) (Some []) [] []
first_told Local = (first Local, λ tell. first_were (first Local).given (first_given Local))
first_told Remote = (first Remote, λ tell. first_were (first Remote).given (first_given Remote))

sends_told : (c : Channel) (past : List Own) (spawns : Option (List Own)) (told asks : List ℕ) (own : Own) (wrote : ℕ) → IsSent c past told own → Told c (Some past) spawns told asks
    → Told c (Some (own ∷ past)) spawns (told_on c own.due own.came told) (asked_on c own.due own.came wrote asks)
sends_told c past None told asks own wrote it h = tt
sends_told c past (Some mine) told asks own wrote it h = (
  sent_posts c past mine told asks h.0 own wrote it.run it.well it.takes it.gives it.shorts,
  λ tell. subst AllWere (sym (sent_given c past mine told asks h.0 own wrote it.run it.well it.takes it.gives it.shorts)) (h.1 tell),
)

serves_told : (c : Channel) (sends : Option (List Own)) (mine : List Own) (told asks : List ℕ) (own : Own) (wrote : ℕ) → IsServed c mine asks own → Told c sends (Some mine) told asks
    → Told c sends (Some (own ∷ mine)) (told_by own.due own.came wrote told) (asked_by own.due own.came asks)
serves_told c None mine told asks own wrote it h = tt
serves_told c (Some past) mine told asks own wrote it h = (
  served_posts c past mine told asks h.0 own wrote (tells_on c (own ∷ mine) it.run) it.offered (says_on c mine own wrote h.0.given it.run it.gives h.0.says),
  λ tell. subst AllWere (sym (served_given c past mine told asks h.0 own wrote (tells_on c (own ∷ mine) it.run) it.offered (says_on c mine own wrote h.0.given it.run it.gives h.0.says)))
      (were_by own.due own.came wrote h.0.given
      (λ text due. (
        it.gives text due,
        were_more h.0.given (reported mine) text (gift_on c mine own h.0.given text it.run h.0.says due) (subst (λ (n : NeedData). tells_success n ≡ true) due tell.1) (h.1 tell.0),
      ))
      (h.1 tell.0)),
)

pub told_kept : IsKept Told
told_kept = record { none = λ c told asks. tt; begins = first_told; sends = sends_told; serves = serves_told }

-- What the sender is to take

-- what it takes first of it
news_first : (before bytes rest : List ℕ) → All IsSuccess (news before (bytes ++ rest)) → All IsSuccess (news before bytes)
news_first before bytes rest all =
    let reader : Reader = (read_on AtBegin before).1 in
    subst (λ (rs : List Report). All IsSuccess rs) (sym (news_are before bytes))
    (first_of (read_on reader bytes).0 (read_on (read_on reader bytes).1 rest).0 (subst (λ (rs : List Report). All IsSuccess rs) (news_are before (bytes ++ rest) ∙ gives_more reader bytes rest) all))
  where
    first_of : (xs ys : List Report) → All IsSuccess (xs ++ ys) → All IsSuccess xs
    first_of [] ys all = All-nil IsSuccess
    first_of (x ∷ xs) ys all = All-cons IsSuccess x xs (All-head IsSuccess x (xs ++ ys) all) (first_of xs ys (All-tail IsSuccess x (xs ++ ys) all))

-- what was heard and what lies there is what was given
pub next_reports : (c : Channel) (past mine : List Own) (told asks before bytes : List ℕ) → Told c (Some past) (Some mine) told asks → AllTell mine → (account c past).heard ≡ Some before → IsTaken told bytes
    → All IsSuccess (news before bytes)
next_reports c past mine told asks before bytes h tell heard lies =
    let w : IsHeard (account c past) h.0.requests h.0.given told (Some before) = subst (IsHeard (account c past) h.0.requests h.0.given told) heard h.0.heard in
    let all : All IsSuccess (read_on AtBegin (before ++ told)).0 = h.1 tell (before ++ told) w.0 in
    let more : reports_in (before ++ told) ≡ reports_in before ++ news before told = gives_more AtBegin before told ∙ ap (λ (rs : List Report). reports_in before ++ rs) (sym (news_are before told)) in
    news_first before bytes lies.1.0
    (subst (λ (t : List ℕ). All IsSuccess (news before t)) lies.1.1 (last_of (reports_in before) (news before told) (subst (λ (rs : List Report). All IsSuccess rs) more all)))
  where
    last_of : (xs ys : List Report) → All IsSuccess (xs ++ ys) → All IsSuccess ys
    last_of [] ys all = all
    last_of (x ∷ xs) ys all = last_of xs ys (All-tail IsSuccess x (xs ++ ys) all)
