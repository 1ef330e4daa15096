-- What lies between a sender and a spawner where nothing fails, by the pasts of both: all that the one gave the other took, or it lies in the pipe.
use Rattle.std.proofs.Common.{◌≡◌, ◌≢◌, ⊎_elim, ℕ, ◌+◌, ◌<◌, ◌≤◌, List, [], ◌∷◌, ◌++◌, length, drop, take, true, Option, Some, None, refl, sym, ap, ◌∙◌, subst, append_assoc, arith}
use Rattle.std.specs.Prelude.{All, flat_map, slice_get}
use Rattle.std.proofs.Math.Seq.{drop-append_seam}
use Rattle.std.proofs.lemmas.Bool.{false≢true}
use Rattle.std.proofs.lemmas.List.Elements.{All-head, All-push, All-tail}
use Rattle.call_fs.proofs.Maps.{put_cases}
use Rattle.call_fs.specs.Maps.{put}
use Rattle.call_fs.specs.Past.{IsRunBy, taken, taken_by}
use Rattle.call_fs.specs.declared.past.GotData.{GotData}
use Rattle.call_fs.specs.declared.past.GotData.TheVariants as came
use Rattle.call_fs.specs.declared.past.NeedData.{NeedData}
use Rattle.call_fs.specs.declared.past.NeedData.TheVariants as needs
use Rattle.call_fs.specs.declared.past.Own.{Own}
use Rattle.call_fs.specs.declared.program.Port.{Port}
use Rattle.call_fs.specs.declared.program.Port.TheVariants as port
use Rattle.program_law.specs.Post.Laws.{request_for}
use Rattle.program_law.specs.Post.Posts.{HasPlainFields, IsOffered, asked_by, told_by, told_of}
use Rattle.program_law.specs.Post.Senders.{AsksFor, asked_on, told_on}
use Rattle.program_law.proofs.Post.Plains.{requests_are_plain}
use Rattle.program_law.proofs.Post.Readings.{gives_more, told_append}
use Rattle.program_law.proofs.Post.Sums.{other_one, own_one}
use Rattle.program_law.proofs.Post.TakesIn.{drop_past}
use Rattle.program_law.proofs.Post.Texts.{empty_last, plain_fields, text_one}
use Rattle.send_core.specs.Laws.{IsRequest}
use Rattle.send_core.specs.Past.{Account, Owed, Task, Work, account, account_by, given, happening, news, reports_in, settle, settle_all, settle_by, took, work}
use Rattle.send_core.specs.Past.Happening.{Gives}
use Rattle.send_core.specs.Table.{Next}
use Rattle.send_core.proofs.Runs.{gives_requests}
use Rattle.send_known.specs.declared.channel.Channel.{Channel}
use Rattle.send_known.specs.declared.channel.Channel.TheVariants.{Local, Remote}
use Rattle.send_parts.specs.Channels.{port_of}
use Rattle.send_runs.specs.Reports.{HasNoReport}
use Rattle.send_runs.proofs.Flights.{all_settled}
use Rattle.spawn_protocol.specs.declared.report.Report.{Report}
use Rattle.spawn_protocol.specs.declared.request.Request.{Request}
use Rattle.spawn_protocol.specs.Report.{Reader, read_on}
use Rattle.spawn_protocol.specs.Report.Reader.{AtBegin}
use Rattle.spawn_protocol.specs.Request.{IsRequest as IsReadable, request_text}
use Rattle.spawner_parts.specs.Causes.{has_end, programs}
use Rattle.spawner_parts.specs.Counts.{asked, one, reported, times}
use Rattle.spawner_parts.specs.Known.{Tells}
use Rattle.spawner_parts.specs.Table.{greeting}
use Rattle.spawner_parts.proofs.Tallies.{asked_push}
use Rattle.world_law.specs.Spawned.{stands_after}
use Rattle.settle_law.specs.Suffices.{desk_of}
use Rattle.settle_law.specs.Well.{came_well}
use Rattle.settle_law.proofs.Greeted.{IsTaken, took_after}
use Rattle.settle_law.proofs.Greeting.{IsStill, all_stay, kept_flights, kept_heard, kept_limit, no_called, untaken}
use Rattle.settle_law.proofs.Says.{Says, Speaks, none_or_speaks}
use Rattle.settle_law.proofs.ShortRequests.{IsShort}
use Rattle.settle_law.proofs.Splits.{AllPlain, flat_push, plain_push, told_few}

-- An event of the sender: it takes of the spawner, gives to it, or leaves both pipes

abbrev IsNoGift : GotData → Type 0
IsNoGift came.Gave = ⊥
IsNoGift got = Unit {0}

still_given : (p : Port) (c : Channel) (text : List ℕ) (got : GotData) → IsNoGift got → IsStill (given p c text got)
still_given port.Lspawn Local (slot ∷ rest) came.Gave none = absurd none
still_given port.Rspawn Remote (slot ∷ rest) came.Gave none = absurd none
still_given p c text got none = tt

data Turned (c : Channel) (due : NeedData) (got : GotData) : Type 0 where
  Hears : (bytes : List ℕ) → due ≡ needs.Take (port_of c) → got ≡ came.Took bytes → Turned c due got
  Asks : (text : List ℕ) → due ≡ needs.Give (port_of c) text → got ≡ came.Gave → Turned c due got
  Fails : got ≡ came.Failed → Turned c due got
  Aside : ((s : Option Work) (owed : List Owed) → IsStill (happening due got s owed c)) → ((told : List ℕ) → told_on c due got told ≡ told)
      → ((wrote : ℕ) (asked : List ℕ) → asked_on c due got wrote asked ≡ asked) → Turned c due got

turned : (c : Channel) (due : NeedData) (got : GotData) → Turned c due got
turned Local (needs.Take port.Lspawn) (came.Took bytes) = Hears bytes refl refl
turned Remote (needs.Take port.Rspawn) (came.Took bytes) = Hears bytes refl refl
turned Local (needs.Give port.Lspawn text) came.Gave = Asks text refl refl
turned Remote (needs.Give port.Rspawn text) came.Gave = Asks text refl refl
turned Local (needs.Give port.Lspawn text) came.Failed = Fails refl
turned Remote (needs.Give port.Rspawn text) came.Failed = Fails refl
turned Local (needs.Give port.Lspawn text) got = Aside (λ s owed. still_given port.Lspawn Local text got tt) (λ told. refl) (λ wrote asked. refl)
turned Remote (needs.Give port.Rspawn text) got = Aside (λ s owed. still_given port.Rspawn Remote text got tt) (λ told. refl) (λ wrote asked. refl)
turned c (needs.File it) (came.Answered told) = Aside (λ s owed. no_called it told s owed c) (λ told. refl) (λ wrote asked. refl)
turned c due got = Aside (λ s owed. tt) (λ told. refl) (λ wrote asked. refl)

-- Reports that are taken

abbrev pub fly : Option Task → ℕ
fly None = 0
fly (Some t) = 1

none_told : (slot : ℕ) (rs : List Report) → HasNoReport slot rs → told_of slot rs ≡ 0
none_told slot [] none = refl
none_told slot (r ∷ rs) none = sum (one slot r.slot) (told_of slot rs)
    (other_one slot r.slot (λ e. All-head (λ (x : Report). x.slot ≢ slot) r rs none (sym e))) (none_told slot rs (All-tail (λ (x : Report). x.slot ≢ slot) r rs none))
  where
    sum : (a b : ℕ) → a ≡ 0 → b ≡ 0 → a + b ≡ 0
    sum a b e f = omega (arith, e, f)

-- what is in flight stays so if none is of its slot
module _ (slot : ℕ) where
  stays_by : (r : Report) (o : Option Task) (a : Account) → slot ≢ r.slot → (settle_by o r a).in_flight slot ≡ a.in_flight slot
  stays_by r None a apart = refl
  stays_by r (Some t) a apart = ⊎_elim (λ h. absurd (apart h.0)) (λ h. h.1) (put_cases a.in_flight r.slot None slot)

  apart : (r : Report) (n : ℕ) → one slot r.slot + n ≡ 0 → slot ≢ r.slot
  apart r n none e = clash (one slot r.slot) n none (own_one slot r.slot e)
    where
      clash : (a b : ℕ) → a + b ≡ 0 → a ≡ 1 → ⊥
      clash a b e f = omega (arith, e, f)

  later : (a b : ℕ) → a + b ≡ 0 → b ≡ 0
  later a b e = omega (arith, e)

  flies_on : (rs : List Report) (a : Account) → told_of slot rs ≡ 0 → (settle_all rs a).in_flight slot ≡ a.in_flight slot
  flies_on [] a none = refl
  flies_on (r ∷ rs) a none =
      flies_on rs (settle r a) (later (one slot r.slot) (told_of slot rs) none) ∙ stays_by r (a.in_flight r.slot) a (apart r (told_of slot rs) none)

-- With as many requests as reports and what is in flight before, so it is after more reports, of which there are no more than requests.
module _ (slot : ℕ) (rs : List Report) (a : Account) (before all : ℕ) (was : fly (a.in_flight slot) + before ≡ all) (few : before + told_of slot rs ≤ all) where
  some_sum : (f b n all : ℕ) → f + b ≡ all → f ≡ 1 → n ≡ 0 → 1 + (b + n) ≡ all
  some_sum f b n all e g h = omega (arith, e, g, h)

  none_sum : (f b n all : ℕ) → f + b ≡ all → b + n ≤ all → f ≡ 0 → 0 + (b + n) ≡ all
  none_sum f b n all e low g = omega (arith, e, low, g)

  freed_sum : (b n all : ℕ) → 1 + b ≡ all → b + n ≤ all → n ≢ 0 → 0 + (b + n) ≡ all
  freed_sum b n all e low some = omega (arith, e, low, some)

  -- nothing is in flight now
  free_now : (o : Option Task) → a.in_flight slot ≡ o → (settle_all rs a).in_flight slot ≡ None → 0 + (before + told_of slot rs) ≡ all
  free_now None e none = none_sum (fly (a.in_flight slot)) before (told_of slot rs) all was few (ap fly e)
  free_now (Some t) e none =
      freed_sum before (told_of slot rs) all (subst (λ (o : Option Task). fly o + before ≡ all) e was) few
      (λ zero. let same : ◌≡◌ {A = Option Task} None (Some t) = sym none ∙ flies_on slot rs a zero ∙ e in absurd (cc))

  steady_by : (o : Option Task) → (settle_all rs a).in_flight slot ≡ o → fly o + (before + told_of slot rs) ≡ all
  steady_by None e = free_now (a.in_flight slot) refl e
  steady_by (Some t) e =
      let w = all_settled slot t rs a e in
      some_sum (fly (a.in_flight slot)) before (told_of slot rs) all was (ap fly w.0) (none_told slot rs w.1)

  steady : fly ((settle_all rs a).in_flight slot) + (before + told_of slot rs) ≡ all
  steady = steady_by ((settle_all rs a).in_flight slot) refl

-- what was heard, and then the rest
pub told_news : (before bytes : List ℕ) (slot : ℕ) → told_of slot (reports_in (before ++ bytes)) ≡ told_of slot (reports_in before) + told_of slot (news before bytes)
told_news before bytes slot =
    let more : List Report = (read_on (read_on AtBegin before).1 bytes).0 in
    let all : reports_in (before ++ bytes) ≡ reports_in before ++ more = gives_more AtBegin before bytes in
    let new : news before bytes ≡ more = ap (λ (rs : List Report). drop (length (reports_in before)) rs) all ∙ drop-append_seam (reports_in before) more in
    ap (told_of slot) all ∙ told_append slot (reports_in before) more ∙ ap (λ (rs : List Report). told_of slot (reports_in before) + told_of slot rs) (sym new)

-- The state of both

-- by what the sender heard: nothing, and then it asked for nothing; or the first byte, and what came since
abbrev pub IsHeard : Account → List Request → (given told : List ℕ) → Option (List ℕ) → Type 0
IsHeard a requests given told None = (given ≡ told) × (requests ≡ []) × (a.limit ≡ 0) × ((slot : ℕ) → a.in_flight slot ≡ None)
IsHeard a requests given told (Some heard) = (given ≡ greeting ++ (heard ++ told)) × ((slot : ℕ) → fly (a.in_flight slot) + told_of slot (reports_in heard) ≡ asked slot requests)

pub record Posts (c : Channel) (past mine : List Own) (told asks : List ℕ) : Type 0 where
  pub requests : List Request
  pub plain : AllPlain requests
  pub whole : All IsReadable requests
  pub are : flat_map request_text requests ≡ taken mine ++ asks
  pub given : List ℕ
  pub tells : Tells mine (stands_after c mine)
  pub says : Says (stands_after c mine).row (stands_after c mine) given (reported mine)
  pub heard : IsHeard (account c past) requests given told (account c past).heard

-- no more reports of a slot than requests
reports_few : (c : Channel) (past mine : List Own) (told asks : List ℕ) (P : Posts c past mine told asks) (slot : ℕ) → times slot (reported mine) ≤ asked slot P.requests
reports_few c past mine told asks P slot = told_few (reported mine) (programs mine) (taken mine) (has_end mine) (stands_after c mine) P.tells.counts P.requests P.plain asks P.are slot

same_heard : (a b : Account) (requests : List Request) (given told : List ℕ) → b.heard ≡ a.heard → b.limit ≡ a.limit → b.in_flight ≡ a.in_flight → (o : Option (List ℕ))
    → IsHeard a requests given told o → IsHeard b requests given told o
same_heard a b requests given told heard limit flights None h = (h.0, h.1, limit ∙ h.2, λ slot. ap (λ (f : ℕ → Option Task). f slot) flights ∙ h.3 slot)
same_heard a b requests given told heard limit flights (Some before) h =
    (h.0, λ slot. ap (λ (f : ℕ → Option Task). fly (f slot) + told_of slot (reports_in before)) flights ∙ h.1 slot)

-- The sender takes bytes

own_taken : (c : Channel) (bytes told : List ℕ) → told_on c (needs.Take (port_of c)) (came.Took bytes) told ≡ drop (length bytes) told
own_taken Local bytes told = refl
own_taken Remote bytes told = refl

none_asked : (c : Channel) (bytes asks : List ℕ) (wrote : ℕ) → asked_on c (needs.Take (port_of c)) (came.Took bytes) wrote asks ≡ asks
none_asked Local bytes asks wrote = refl
none_asked Remote bytes asks wrote = refl

rest_none : (bytes rest : List ℕ) → bytes ≢ [] → bytes ++ rest ≡ greeting → rest ≡ []
rest_none [] rest some e = absurd (some refl)
rest_none (b ∷ bytes) rest some e = let tail : bytes ++ rest ≡ [] = cc in empty_last bytes rest tail

first_none : (bytes rest : List ℕ) → bytes ≢ [] → bytes ++ rest ≡ [] → ⊥
first_none [] rest some e = some refl
first_none (b ∷ bytes) rest some e = cc

none_few : (rs : List Report) → ((slot : ℕ) → told_of slot rs ≤ 0) → rs ≡ []
none_few [] few = refl
none_few (r ∷ rs) few = absurd (clash (one r.slot r.slot) (told_of r.slot rs) (few r.slot) (own_one r.slot r.slot refl))
  where
    clash : (a b : ℕ) → a + b ≤ 0 → a ≡ 1 → ⊥
    clash a b e f = omega (arith, e, f)

module _ (c : Channel) (past mine : List Own) (told asks : List ℕ) (P : Posts c past mine told asks) where
  abbrev a : Account
  a = account c past

  abbrev few : (slot : ℕ) → times slot (reported mine) ≤ asked slot P.requests
  few = reports_few c past mine told asks P

  -- before anything was asked for no report was given
  silent : (S : Speaks P.given (reported mine)) → P.requests ≡ [] → P.given ≡ greeting
  silent S none =
      let low = λ (slot : ℕ). subst (λ (rs : List Request). times slot (reported mine) ≤ asked slot rs) none (few slot) in
      let all : S.reports ≡ [] = none_few S.reports (λ slot. subst (λ (n : ℕ). n ≤ 0) (sym (S.count slot)) (low slot)) in
      S.is ∙ ap (λ (t : List ℕ). greeting ++ t) (S.some all)

  -- after the first byte the reports that were given are those that were heard, and the rest
  spoken : (heard rest : List ℕ) → P.given ≡ greeting ++ (heard ++ rest) → (S : Speaks P.given (reported mine)) → reports_in (heard ++ rest) ≡ S.reports
  spoken heard rest is S =
      let both : greeting ++ (heard ++ rest) ≡ greeting ++ S.texts = sym is ∙ S.is in
      let texts : heard ++ rest ≡ S.texts = cc in
      ap (λ (t : List ℕ). (read_on AtBegin t).0) texts ∙ ap (λ (s : List Report × Reader). s.0) S.read

  pub speaks : (heard rest : List ℕ) → P.given ≡ greeting ++ (heard ++ rest) → Speaks P.given (reported mine)
  speaks heard rest is = ⊎_elim
      (λ (none : P.given ≡ []). let both : greeting ++ (heard ++ rest) ≡ [] = sym is ∙ none in absurd (cc))
      (λ (S : Speaks P.given (reported mine)). S)
      (none_or_speaks (stands_after c mine).row (stands_after c mine) P.given (reported mine) P.says)

  pub told_all : (heard rest : List ℕ) → P.given ≡ greeting ++ (heard ++ rest) → (slot : ℕ) → told_of slot (reports_in (heard ++ rest)) ≡ times slot (reported mine)
  told_all heard rest is slot = let S = speaks heard rest is in ap (told_of slot) (spoken heard rest is S) ∙ S.count slot

  low_sum : (first more all most : ℕ) → all ≡ first + more → all ≤ most → first ≤ most
  low_sum first more all most e low = omega (arith, e, low)

  -- of what was heard there are no more than requests
  heard_few : (heard bytes rest : List ℕ) → P.given ≡ greeting ++ ((heard ++ bytes) ++ rest) → (slot : ℕ)
      → told_of slot (reports_in heard) + told_of slot (news heard bytes) ≤ asked slot P.requests
  heard_few heard bytes rest is slot =
      subst (λ (n : ℕ). n ≤ asked slot P.requests) (told_news heard bytes slot)
      (low_sum (told_of slot (reports_in (heard ++ bytes))) (told_of slot (news (heard ++ bytes) rest)) (told_of slot (reports_in ((heard ++ bytes) ++ rest))) (asked slot P.requests)
      (told_news (heard ++ bytes) rest slot) (subst (λ (n : ℕ). n ≤ asked slot P.requests) (sym (told_all (heard ++ bytes) rest is slot)) (few slot)))

  module _ (bytes rest : List ℕ) (some : bytes ≢ []) (lies : told ≡ bytes ++ rest) where
    first_heard : P.given ≡ told → P.requests ≡ [] → P.given ≡ greeting ++ ([] ++ rest)
    first_heard same none = ⊎_elim
        (λ (no : P.given ≡ []). absurd (first_none bytes rest some (sym lies ∙ sym same ∙ no)))
        (λ (S : Speaks P.given (reported mine)).
        let whole : P.given ≡ greeting = silent S none in
        let left : rest ≡ [] = rest_none bytes rest some (sym lies ∙ sym same ∙ whole) in
        whole ∙ ap (λ (t : List ℕ). greeting ++ t) (sym left))
        (none_or_speaks (stands_after c mine).row (stands_after c mine) P.given (reported mine) P.says)

    took_on : (o : Option (List ℕ)) → IsHeard a P.requests P.given told o → let b = took o bytes a in IsHeard b P.requests P.given rest b.heard
    took_on None h = (first_heard h.0 h.1, λ slot. ap (λ (o : Option Task). fly o + 0) (h.3 slot) ∙ ap (asked slot) (sym h.1))
    took_on (Some before) h =
        let b : Account = record a { heard = Some (before ++ bytes) } in
        let more = news before bytes in
        let is : P.given ≡ greeting ++ ((before ++ bytes) ++ rest) =
        h.0 ∙ ap (λ (t : List ℕ). greeting ++ (before ++ t)) lies ∙ ap (λ (t : List ℕ). greeting ++ t) (sym (append_assoc before bytes rest)) in
        subst (IsHeard (settle_all more b) P.requests P.given rest) (sym (all_stay more b).heard) (
          is,
          λ slot. ap (λ (n : ℕ). fly ((settle_all more b).in_flight slot) + n) (told_news before bytes slot)
              ∙ steady slot more b (told_of slot (reports_in before)) (asked slot P.requests) (h.1 slot) (heard_few before bytes rest is slot),
        )

  hears : (own : Own) (wrote : ℕ) (bytes : List ℕ) → own.due ≡ needs.Take (port_of c) → own.came ≡ came.Took bytes → IsTaken told bytes
      → Posts c (own ∷ past) mine (told_on c own.due own.came told) (asked_on c own.due own.came wrote asks)
  hears own wrote bytes due got lies =
      let rest = lies.1.0 in
      let now : told_on c own.due own.came told ≡ rest =
      ap (λ (d : NeedData). told_on c d own.came told) due ∙ ap (λ (g : GotData). told_on c (needs.Take (port_of c)) g told) got ∙ own_taken c bytes told
      ∙ ap (drop (length bytes)) lies.1.1 ∙ drop_past bytes rest in
      let same : asked_on c own.due own.came wrote asks ≡ asks =
      ap (λ (d : NeedData). asked_on c d own.came wrote asks) due ∙ ap (λ (g : GotData). asked_on c (needs.Take (port_of c)) g wrote asks) got ∙ none_asked c bytes asks wrote in
      let h : IsHeard (took a.heard bytes a) P.requests P.given rest (took a.heard bytes a).heard = took_on bytes rest lies.0 lies.1.1 a.heard P.heard in
      record {
        requests = P.requests;
        plain = P.plain;
        whole = P.whole;
        are = P.are ∙ ap (λ (t : List ℕ). taken mine ++ t) (sym same);
        given = P.given;
        tells = P.tells;
        says = P.says;
        heard = subst (λ (t : List ℕ). IsHeard (account c (own ∷ past)) P.requests P.given t (account c (own ∷ past)).heard) (sym now)
            (subst (λ (b : Account). IsHeard b P.requests P.given rest b.heard) (sym (took_after c past own bytes due got)) h);
      }

  -- The sender gives a request

  gave_on : (slot : ℕ) (b : Account) (o : Option (List ℕ)) (r : Request) → b.heard ≡ a.heard → b.in_flight ≡ put a.in_flight slot (slice_get a.to_give 0) → (t : Task) → slice_get a.to_give 0 ≡ Some t
      → a.in_flight slot ≡ None → r.slot ≡ slot → slot < a.limit → IsHeard a P.requests P.given told o → IsHeard b (P.requests ++ r ∷ []) P.given told o
  gave_on slot b None r heard flights t next free is low h = let none = h.2 in absurd (omega (arith, low, none))
  gave_on slot b (Some before) r heard flights t next free is low h = (h.0, λ k. ⊎_elim (here k) (there k) (put_cases a.in_flight slot (slice_get a.to_give 0) k))
    where
      now : (k : ℕ) → asked k (P.requests ++ r ∷ []) ≡ one k slot + asked k P.requests
      now k = asked_push k P.requests r ∙ ap (λ (s : ℕ). one k s + asked k P.requests) is

      here_sum : (f h all o n : ℕ) → f + h ≡ all → f ≡ 0 → o ≡ 1 → n ≡ o + all → 1 + h ≡ n
      here_sum f h all o n e g i j = omega (arith, e, g, i, j)

      there_sum : (f h all o n : ℕ) → f + h ≡ all → o ≡ 0 → n ≡ o + all → f + h ≡ n
      there_sum f h all o n e g i = omega (arith, e, g, i)

      Then : ℕ → Type 0
      Then k = fly (b.in_flight k) + told_of k (reports_in before) ≡ asked k (P.requests ++ r ∷ [])

      here : (k : ℕ) → (k ≡ slot) × (put a.in_flight slot (slice_get a.to_give 0) k ≡ slice_get a.to_give 0) → Then k
      here k w =
          let flies : b.in_flight k ≡ Some t = ap (λ (f : ℕ → Option Task). f k) flights ∙ w.1 ∙ next in
          ap (λ (o : Option Task). fly o + told_of k (reports_in before)) flies
          ∙ here_sum (fly (a.in_flight k)) (told_of k (reports_in before)) (asked k P.requests) (one k slot) (asked k (P.requests ++ r ∷ [])) (h.1 k)
          (ap (λ (s : ℕ). fly (a.in_flight s)) w.0 ∙ ap fly free) (own_one k slot w.0) (now k)

      there : (k : ℕ) → (k ≢ slot) × (put a.in_flight slot (slice_get a.to_give 0) k ≡ a.in_flight k) → Then k
      there k w =
          ap (λ (o : Option Task). fly o + told_of k (reports_in before)) (ap (λ (f : ℕ → Option Task). f k) flights ∙ w.1)
          ∙ there_sum (fly (a.in_flight k)) (told_of k (reports_in before)) (asked k P.requests) (one k slot) (asked k (P.requests ++ r ∷ [])) (h.1 k) (other_one k slot w.0) (now k)

  own_given : (k : Channel) (text : List ℕ) (wrote : ℕ) → asked_on k (needs.Give (port_of k) text) came.Gave wrote asks ≡ asks ++ text
  own_given Local text wrote = refl
  own_given Remote text wrote = refl

  gives_is : (k : Channel) (r : Request) (s : Option Work) (owed : List Owed) (b : Account) → account_by (happening (needs.Give (port_of k) (request_text r)) came.Gave s owed k) b ≡ account_by (Gives r.slot) b
  gives_is Local r s owed b = refl
  gives_is Remote r s owed b = refl

  asks_one : (own : Own) (wrote : ℕ) (text : List ℕ) → own.due ≡ needs.Give (port_of c) text → own.came ≡ came.Gave → IsRunBy (Next None) (own ∷ past) → AsksFor c (desk_of past) text → IsShort text
      → Posts c (own ∷ past) mine (told_on c own.due own.came told) (asked_on c own.due own.came wrote asks)
  asks_one own wrote text due got run A short =
      let r : Request = request_for A.slot A.attempt.n A.sender A.attempt.address in
      let text_is : text ≡ request_text r = A.is ∙ requests_are_plain.text A.slot A.attempt.n A.sender A.attempt.address in
      let R : IsRequest past a text = gives_requests None past own.read own.ready run.0 c text (run.1.0 ∙ due) in
      let fields : HasPlainFields r = requests_are_plain.plain A.slot A.attempt.n A.sender A.attempt.address A.sender_plain A.address_plain in
      let same_request : short.0 ≡ r = (text_one short.0 r [] [] (plain_fields short.0 short.1) fields (ap (λ (t : List ℕ). t ++ []) (sym short.2 ∙ text_is))).0 in
      let both : request_text r ≡ request_text (request_for R.slot R.task.n R.sender R.task.address) =
      sym text_is ∙ R.is ∙ requests_are_plain.text R.slot R.task.n R.sender R.task.address in
      let slot : A.slot ≡ R.slot = cc in
      let b : Account = account c (own ∷ past) in
      let s = work past in
      let owed = (account Local past).to_mark in
      let now : b ≡ account_by (Gives A.slot) a =
      ap (λ (d : NeedData). account_by (happening d own.came s owed c) a) due ∙ ap (λ (g : GotData). account_by (happening (needs.Give (port_of c) text) g s owed c) a) got
      ∙ ap (λ (t : List ℕ). account_by (happening (needs.Give (port_of c) t) came.Gave s owed c) a) text_is ∙ gives_is c r s owed a in
      let heard : b.heard ≡ a.heard = ap (λ (x : Account). x.heard) now in
      let asked_is : asked_on c own.due own.came wrote asks ≡ asks ++ request_text r =
      ap (λ (d : NeedData). asked_on c d own.came wrote asks) due ∙ ap (λ (g : GotData). asked_on c (needs.Give (port_of c) text) g wrote asks) got ∙ own_given c text wrote
      ∙ ap (λ (t : List ℕ). asks ++ t) text_is in
      let told_is : told ≡ told_on c own.due own.came told = sym (ap (λ (d : NeedData). told_on c d own.came told) due) in
      let low : A.slot < a.limit = subst (λ (k : ℕ). k < a.limit) (sym slot) R.limited in
      let h : IsHeard b (P.requests ++ r ∷ []) P.given told a.heard =
      gave_on A.slot b a.heard r heard (ap (λ (x : Account). x.in_flight) now) R.task (ap (λ (l : List Task). slice_get l 0) R.next) (ap a.in_flight slot ∙ R.free) refl low P.heard in
      record {
        requests = P.requests ++ r ∷ [];
        plain = plain_push P.requests r P.plain fields;
        whole = All-push IsReadable P.requests r P.whole (subst IsReadable same_request short.1);
        are = flat_push P.requests r ∙ ap (λ (t : List ℕ). t ++ request_text r) P.are ∙ append_assoc (taken mine) asks (request_text r) ∙ ap (λ (t : List ℕ). taken mine ++ t) (sym asked_is);
        given = P.given;
        tells = P.tells;
        says = P.says;
        heard = subst (IsHeard b (P.requests ++ r ∷ []) P.given (told_on c own.due own.came told)) (sym heard)
            (subst (λ (t : List ℕ). IsHeard b (P.requests ++ r ∷ []) P.given t a.heard) told_is h);
      }

  -- or it does neither

  aside : (own : Own) (wrote : ℕ) → ((s : Option Work) (owed : List Owed) → IsStill (happening own.due own.came s owed c)) → told_on c own.due own.came told ≡ told → asked_on c own.due own.came wrote asks ≡ asks
      → Posts c (own ∷ past) mine (told_on c own.due own.came told) (asked_on c own.due own.came wrote asks)
  aside own wrote still same none =
      let it = happening own.due own.came (work past) (account Local past).to_mark c in
      let is : IsStill it = still (work past) (account Local past).to_mark in
      let b : Account = account c (own ∷ past) in
      let heard : b.heard ≡ a.heard = kept_heard it a (untaken it is) in
      record {
        requests = P.requests;
        plain = P.plain;
        whole = P.whole;
        are = P.are ∙ ap (λ (t : List ℕ). taken mine ++ t) (sym none);
        given = P.given;
        tells = P.tells;
        says = P.says;
        heard = subst (IsHeard b P.requests P.given (told_on c own.due own.came told)) (sym heard)
            (subst (λ (t : List ℕ). IsHeard b P.requests P.given t a.heard) (sym same)
            (same_heard a b P.requests P.given told heard (kept_limit it a (untaken it is)) (kept_flights it a is) a.heard P.heard));
      }

  module _ (own : Own) (wrote : ℕ) (run : IsRunBy (Next None) (own ∷ past)) (well : came_well own.came ≡ true)
      (takes : own.due ≡ needs.Take (port_of c) → (bytes : List ℕ) → own.came ≡ came.Took bytes → IsTaken told bytes)
      (gives : (text : List ℕ) → own.due ≡ needs.Give (port_of c) text → AsksFor c (desk_of past) text) (shorts : (text : List ℕ) → own.due ≡ needs.Give (port_of c) text → IsShort text) where
    posts_by : Turned c own.due own.came → Posts c (own ∷ past) mine (told_on c own.due own.came told) (asked_on c own.due own.came wrote asks)
    posts_by (Hears bytes due got) = hears own wrote bytes due got (takes due bytes got)
    posts_by (Asks text due got) = asks_one own wrote text due got run (gives text due) (shorts text due)
    posts_by (Fails got) = absurd (false≢true (ap came_well (sym got) ∙ well))
    posts_by (Aside still same none) = aside own wrote still (same told) (none wrote asks)

    pub sent_posts : Posts c (own ∷ past) mine (told_on c own.due own.came told) (asked_on c own.due own.came wrote asks)
    sent_posts = posts_by (turned c own.due own.came)

    given_by : (t : Turned c own.due own.came) → (posts_by t).given ≡ P.given
    unfolding posts_by hears asks_one aside
    given_by (Hears bytes due got) = refl
    given_by (Asks text due got) = refl
    given_by (Fails got) = absurd (false≢true (ap came_well (sym got) ∙ well))
    given_by (Aside still same none) = refl

    -- by it the spawner gave nothing
    pub sent_given : sent_posts.given ≡ P.given
    unfolding sent_posts posts_by
    sent_given = given_by (turned c own.due own.came)

  -- An event of the spawner

  told_more : (due : NeedData) (got : GotData) (wrote : ℕ) (before bytes : List ℕ) → told_by due got wrote (before ++ bytes) ≡ before ++ told_by due got wrote bytes
  told_more (needs.Give port.Output text) came.Gave wrote before bytes = append_assoc before bytes text
  told_more (needs.Give port.Output text) came.Failed wrote before bytes = append_assoc before bytes (take wrote text)
  told_more due got wrote before bytes = refl

  taken_more : (due : NeedData) (got : GotData) (old lies : List ℕ) → (due ≡ needs.Take port.Input → IsOffered lies got) → taken_by old due got ++ asked_by due got lies ≡ old ++ lies
  taken_more (needs.Take port.Input) (came.Took bytes) old lies offered =
      let o = offered refl in
      ap (λ (t : List ℕ). (old ++ bytes) ++ t) (ap (drop (length bytes)) o.1 ∙ drop_past bytes o.0) ∙ append_assoc old bytes o.0 ∙ ap (λ (t : List ℕ). old ++ t) (sym o.1)
  taken_more due got old lies offered = refl

  heard_more : (own : Own) (wrote : ℕ) (o : Option (List ℕ)) → IsHeard a P.requests P.given told o
      → IsHeard a P.requests (told_by own.due own.came wrote P.given) (told_by own.due own.came wrote told) o
  heard_more own wrote None h = (ap (told_by own.due own.came wrote) h.0, h.1, h.2, h.3)
  heard_more own wrote (Some heard) h = (
    ap (told_by own.due own.came wrote) (h.0 ∙ sym (append_assoc greeting heard told)) ∙ told_more own.due own.came wrote (greeting ++ heard) told
        ∙ append_assoc greeting heard (told_by own.due own.came wrote told),
    h.1,
  )

  pub served_posts : (own : Own) (wrote : ℕ) → Tells (own ∷ mine) (stands_after c (own ∷ mine)) → (own.due ≡ needs.Take port.Input → IsOffered asks own.came)
      → Says (stands_after c (own ∷ mine)).row (stands_after c (own ∷ mine)) (told_by own.due own.came wrote P.given) (reported (own ∷ mine))
      → Posts c past (own ∷ mine) (told_by own.due own.came wrote told) (asked_by own.due own.came asks)
  served_posts own wrote tells offered says = record {
    requests = P.requests;
    plain = P.plain;
    whole = P.whole;
    are = P.are ∙ sym (taken_more own.due own.came (taken mine) asks offered);
    given = told_by own.due own.came wrote P.given;
    tells = tells;
    says = says;
    heard = heard_more own wrote (account c past).heard P.heard;
  }

  pub served_given : (own : Own) (wrote : ℕ) (tells : Tells (own ∷ mine) (stands_after c (own ∷ mine))) (offered : own.due ≡ needs.Take port.Input → IsOffered asks own.came)
      (says : Says (stands_after c (own ∷ mine)).row (stands_after c (own ∷ mine)) (told_by own.due own.came wrote P.given) (reported (own ∷ mine)))
      → (served_posts own wrote tells offered says).given ≡ told_by own.due own.came wrote P.given
  unfolding served_posts
  served_given own wrote tells offered says = refl
