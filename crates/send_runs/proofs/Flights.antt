-- What is in flight was given, and no report of its slot was taken since: in any past, whatever the sender keeps.
use Rattle.std.proofs.Common.{◌≡◌, ◌≢◌, ◌⊎◌, ℕ, List, [], ◌∷◌, ◌++◌, Bool, true, false, Option, Some, None, refl, sym, ap, ◌∙◌, subst, inl, inr, ⊎_elim}
use Rattle.std.specs.Prelude.{slice_get}
use Rattle.std.proofs.lemmas.List.Elements.{All-cons, All-nil}
use Rattle.call_fs.proofs.Maps.{put_cases}
use Rattle.call_fs.specs.Maps.{put}
use Rattle.call_fs.specs.declared.calls.Answer.{Answer}
use Rattle.call_fs.specs.declared.calls.Answer.TheVariants as answer
use Rattle.call_fs.specs.declared.calls.CallData.{CallData}
use Rattle.call_fs.specs.declared.calls.CallData.TheVariants as call
use Rattle.call_fs.specs.declared.calls.Fd.{Fd}
use Rattle.call_fs.specs.declared.calls.FsError.TheVariants as why
use Rattle.call_fs.specs.declared.calls.How.TheVariants as how
use Rattle.call_fs.specs.declared.calls.Told.{Told}
use Rattle.call_fs.specs.declared.past.GotData.{GotData}
use Rattle.call_fs.specs.declared.past.GotData.TheVariants as came
use Rattle.call_fs.specs.declared.past.NeedData.{NeedData}
use Rattle.call_fs.specs.declared.past.NeedData.TheVariants as needs
use Rattle.call_fs.specs.declared.past.Own.{Own}
use Rattle.call_fs.specs.declared.program.Port.{Port}
use Rattle.call_fs.specs.declared.program.Port.TheVariants as port
use Rattle.queue_paths.specs.Names.{Name, parse}
use Rattle.queue_paths.specs.Names.Name.{Of}
use Rattle.queue_paths.specs.Names.Part.{Bounce as BounceFile, Local as LocalFile, Remote as RemoteFile}
use Rattle.send_core.specs.Past.{Account, Happening, Owed, Source, Task, Work, account, account_by, called, closed, closed_if, ends, given_up, happening, news, opened, settle, settle_all, settle_by, taken, given, took, uncreated_note, unopened_note, whole_of, work}
use Rattle.send_core.specs.Past.Happening.{Gives, GivesUp, Marks, Nothing, Reads, Takes}
use Rattle.send_core.specs.Past.Work.{Missing, Noting, Reading}
use Rattle.send_core.specs.Table.{port_of}
use Rattle.send_known.specs.declared.channel.Channel.{Channel}
use Rattle.send_known.specs.declared.channel.Channel.TheVariants.{Local, Remote}
use Rattle.spawn_protocol.specs.declared.report.Report.{Report}
use Rattle.send_runs.specs.Reports.{FlightsWereGiven, HasNoReport, WasGiven, ending_in, given_by, reports_at, taken_by, taken_when}

-- Reports that are taken

module _ (slot : ℕ) (t : Task) where
  settled : (r : Report) (o : Option Task) (a : Account) → a.in_flight r.slot ≡ o → (settle_by o r a).in_flight slot ≡ Some t → (a.in_flight slot ≡ Some t) × (r.slot ≢ slot)
  settled r None a there flies = (flies, λ same. let here : a.in_flight slot ≡ None = ap a.in_flight (sym same) ∙ there in absurd (cc (sym here ∙ flies)))
  settled r (Some x) a there flies = ⊎_elim
      (λ (w : (slot ≡ r.slot) × (put a.in_flight r.slot None slot ≡ None)). absurd (cc (sym w.1 ∙ flies)))
      (λ (w : (slot ≢ r.slot) × (put a.in_flight r.slot None slot ≡ a.in_flight slot)). (sym w.1 ∙ flies, λ same. w.0 (sym same)))
      (put_cases a.in_flight r.slot None slot)

  pub all_settled : (rs : List Report) (a : Account) → (settle_all rs a).in_flight slot ≡ Some t → (a.in_flight slot ≡ Some t) × HasNoReport slot rs
  all_settled [] a flies = (flies, All-nil (λ (r : Report). r.slot ≢ slot))
  all_settled (r ∷ rs) a flies =
      let later = all_settled rs (settle r a) flies in
      let here = settled r (a.in_flight r.slot) a refl later.0 in
      (here.0, All-cons (λ (x : Report). x.slot ≢ slot) r rs here.1 later.1)

  heard_on : (o : Option (List ℕ)) (bytes : List ℕ) (a : Account) → (took o bytes a).in_flight slot ≡ Some t → (a.in_flight slot ≡ Some t) × HasNoReport slot (ending_in o bytes)
  heard_on None bytes a flies = (flies, All-nil (λ (r : Report). r.slot ≢ slot))
  heard_on (Some before) bytes a flies = all_settled (news before bytes) (record a { heard = Some (before ++ bytes) }) flies

-- A file call gives and takes nothing

abbrev IsQuiet : Happening → Type 0
IsQuiet (Takes bytes) = ⊥
IsQuiet (Gives slot) = ⊥
IsQuiet other = Unit {0}

quiet_whole : (of c : Channel) (s : Source) → IsQuiet (whole_of of c s)
quiet_whole Local Local s = tt
quiet_whole Local Remote s = tt
quiet_whole Remote Local s = tt
quiet_whole Remote Remote s = tt

quiet_up : (c : Channel) (owed : List Owed) → IsQuiet (given_up c owed)
quiet_up Local owed = tt
quiet_up Remote [] = tt
quiet_up Remote (first ∷ rest) = tt

quiet_close : (w : Option Work) (fd : Fd) (owed : List Owed) (c : Channel) → IsQuiet (closed w fd owed c)
quiet_close None fd owed c = tt
quiet_close (Some (Reading s)) fd owed c = by (ends s fd) where
  by : (b : Bool) → IsQuiet (closed_if b s c)
  by true = quiet_whole s.channel c s
  by false = tt
quiet_close (Some Missing) fd owed c = tt
quiet_close (Some (Noting f true)) fd owed c = tt
quiet_close (Some (Noting f false)) fd owed c = quiet_up c owed

quiet_open : (x : Option Name) (c : Channel) → IsQuiet (opened x c)
quiet_open (Some (Of LocalFile n)) Local = tt
quiet_open (Some (Of RemoteFile n)) Remote = tt
quiet_open x c = tt

quiet_note : (told : Answer) (owed : List Owed) (c : Channel) → IsQuiet (unopened_note told owed c)
quiet_note (answer.Opened fd) owed c = tt
quiet_note (answer.Refused why.NotThere) owed c = tt
quiet_note told owed c = quiet_up c owed

quiet_create : (x : Option Name) (told : Answer) (owed : List Owed) (c : Channel) → IsQuiet (uncreated_note x told owed c)
quiet_create (Some (Of BounceFile n)) (answer.Created fd number) owed c = tt
quiet_create (Some (Of BounceFile n)) told owed c = quiet_up c owed
quiet_create x told owed c = tt

quiet_call : (call : CallData) (told : Told) (w : Option Work) (owed : List Owed) (c : Channel) → IsQuiet (called call told w owed c)
quiet_call (call.Close fd) told w owed c = quiet_close w fd owed c
quiet_call (call.Open name how.Write) told w owed c = quiet_open (parse name) c
quiet_call (call.Open name how.Append) told w owed c = quiet_note told.answer owed c
quiet_call (call.CreateExcl name) told w owed c = quiet_create (parse name) told.answer owed c
quiet_call other told w owed c = tt

quiet_same : (h : Happening) (a : Account) → IsQuiet h → (account_by h a).in_flight ≡ a.in_flight
quiet_same Nothing a quiet = refl
quiet_same (Takes bytes) a quiet = absurd quiet
quiet_same (Gives slot) a quiet = absurd quiet
quiet_same (Reads tasks) a quiet = refl
quiet_same Marks a quiet = refl
quiet_same GivesUp a quiet = refl

-- What a taking and a giving are

taken_cases : (p : Port) (c : Channel) (got : GotData) → (taken p c got ≡ Nothing) ⊎ ((bytes : List ℕ) × (taken p c got ≡ Takes bytes))
taken_cases port.Lspawn Local (came.Took bytes) = inr (bytes, refl)
taken_cases port.Rspawn Remote (came.Took bytes) = inr (bytes, refl)
taken_cases p c got = inl refl

given_cases : (p : Port) (c : Channel) (text : List ℕ) (got : GotData)
    → (given p c text got ≡ Nothing) ⊎ ((slot : ℕ) × (rest : List ℕ) × (given p c text got ≡ Gives slot) × (p ≡ port_of c) × (text ≡ slot ∷ rest) × (got ≡ came.Gave))
given_cases port.Lspawn Local (slot ∷ rest) came.Gave = inr (slot, rest, refl, refl, refl, refl)
given_cases port.Rspawn Remote (slot ∷ rest) came.Gave = inr (slot, rest, refl, refl, refl, refl)
given_cases p c text got = inl refl

no_gift : (slot : ℕ) → Nothing ≡ Gives slot → ⊥
no_gift slot e = cc

same_slot : (i j : ℕ) → Gives i ≡ Gives j → i ≡ j
same_slot i j e = cc

-- An event more

module _ (c : Channel) (slot : ℕ) (t : Task) (event : Own) (before : List Own) (known : (account c before).in_flight slot ≡ Some t → WasGiven c before slot t) where
  goes_on : WasGiven c before slot t → HasNoReport slot (reports_at c before event) → (given_by event.due event.came c ≢ Gives slot) → WasGiven c (event ∷ before) slot t
  goes_on w none other = record {
    later = event ∷ w.later;
    event = w.event;
    before = w.before;
    rest = w.rest;
    all = ap (λ (p : List Own). event ∷ p) w.all;
    due = w.due;
    came_is = w.came_is;
    next = w.next;
    left = (w.left, subst (λ (p : List Own). HasNoReport slot (reports_at c p event)) w.all none, other);
  }

  -- of which nothing was taken
  silent : taken_by event.due event.came c ≡ Nothing → HasNoReport slot (reports_at c before event)
  silent e = subst (λ (h : Happening). HasNoReport slot (taken_when h (account c before).heard)) (sym e) (All-nil (λ (r : Report). r.slot ≢ slot))

  abbrev Was : NeedData → GotData → Type 0
  Was due got = event.due ≡ due → event.came ≡ got → (account_by (happening due got (work before) (account Local before).to_mark c) (account c before)).in_flight slot ≡ Some t → WasGiven c (event ∷ before) slot t

  -- nor given for the slot
  not_given : (due : NeedData) (got : GotData) → given_by due got c ≢ Gives slot → event.due ≡ due → event.came ≡ got → given_by event.due event.came c ≢ Gives slot
  not_given due got other d g e = other (sym (ap (λ (x : NeedData). given_by x event.came c) d ∙ ap (λ (x : GotData). given_by due x c) g) ∙ e)

  nothing : (due : NeedData) (got : GotData) → taken_by due got c ≡ Nothing → given_by due got c ≢ Gives slot → event.due ≡ due → event.came ≡ got → (account c before).in_flight slot ≡ Some t
      → WasGiven c (event ∷ before) slot t
  nothing due got none other d g flies =
      goes_on (known flies) (silent (ap (λ (x : NeedData). taken_by x event.came c) d ∙ ap (λ (x : GotData). taken_by due x c) g ∙ none)) (not_given due got other d g)

  take_on : (p : Port) (got : GotData) → Was (needs.Take p) got
  take_on p got d g flies = ⊎_elim
      (λ (none : taken p c got ≡ Nothing). nothing (needs.Take p) got none (no_gift slot) d g (subst (λ (h : Happening). (account_by h (account c before)).in_flight slot ≡ Some t) none flies))
      (λ (w : (bytes : List ℕ) × (taken p c got ≡ Takes bytes)).
      let it = heard_on slot t (account c before).heard w.0 (account c before) (subst (λ (h : Happening). (account_by h (account c before)).in_flight slot ≡ Some t) w.1 flies) in
      let is : taken_by event.due event.came c ≡ Takes w.0 = ap (λ (x : NeedData). taken_by x event.came c) d ∙ ap (λ (x : GotData). taken_by (needs.Take p) x c) g ∙ w.1 in
      goes_on (known it.0) (subst (λ (h : Happening). HasNoReport slot (taken_when h (account c before).heard)) (sym is) it.1) (not_given (needs.Take p) got (no_gift slot) d g))
      (taken_cases p c got)

  give_on : (p : Port) (text : List ℕ) (got : GotData) → Was (needs.Give p text) got
  give_on p text got d g flies = ⊎_elim
      (λ (none : given p c text got ≡ Nothing). nothing (needs.Give p text) got refl (λ gives. no_gift slot (sym none ∙ gives)) d g (subst (λ (h : Happening). (account_by h (account c before)).in_flight slot ≡ Some t) none flies))
      (λ (w : (of : ℕ) × (rest : List ℕ) × (given p c text got ≡ Gives of) × (p ≡ port_of c) × (text ≡ of ∷ rest) × (got ≡ came.Gave)).
      let at : put (account c before).in_flight w.0 (slice_get (account c before).to_give 0) slot ≡ Some t =
      subst (λ (h : Happening). (account_by h (account c before)).in_flight slot ≡ Some t) w.2 flies in
      ⊎_elim
      (λ (e : (slot ≡ w.0) × (put (account c before).in_flight w.0 (slice_get (account c before).to_give 0) slot ≡ slice_get (account c before).to_give 0)). record {
        later = [];
        event = event;
        before = before;
        rest = w.1;
        all = refl;
        due = d ∙ ap (λ (q : Port). needs.Give q text) w.3 ∙ ap (λ (x : List ℕ). needs.Give (port_of c) x) w.4 ∙ ap (λ (k : ℕ). needs.Give (port_of c) (k ∷ w.1)) (sym e.0);
        came_is = g ∙ w.5;
        next = sym e.1 ∙ at;
        left = tt;
      })
      (λ (e : (slot ≢ w.0) × (put (account c before).in_flight w.0 (slice_get (account c before).to_give 0) slot ≡ (account c before).in_flight slot)).
      nothing (needs.Give p text) got refl (λ gives. e.0 (sym (same_slot w.0 slot (sym w.2 ∙ gives)))) d g (sym e.1 ∙ at))
      (put_cases (account c before).in_flight w.0 (slice_get (account c before).to_give 0) slot))
      (given_cases p c text got)

  step : (due : NeedData) (got : GotData) → Was due got
  step (needs.File call) (came.Answered told) d g flies = nothing (needs.File call) (came.Answered told) refl (no_gift slot) d g
      (subst (λ (f : ℕ → Option Task). f slot ≡ Some t)
      (quiet_same (called call told (work before) (account Local before).to_mark c) (account c before) (quiet_call call told (work before) (account Local before).to_mark c)) flies)
  step (needs.Take p) got d g flies = take_on p got d g flies
  step (needs.Give p text) got d g flies = give_on p text got d g flies
  step due got d g flies = nothing due got refl (no_gift slot) d g flies

pub flights_were_given : FlightsWereGiven
flights_were_given c [] slot t flies = absurd (cc)
flights_were_given c (event ∷ before) slot t flies = step c slot t event before (flights_were_given c before slot t) event.due event.came refl refl flies
