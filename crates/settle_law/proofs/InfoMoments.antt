-- No info file was written later than now.
use Rattle.std.proofs.Common.{◌≡◌, ◌≢◌, ◌≤◌, ⊎_elim, ℕ, zero, suc, List, [], ◌∷◌, arith, Option, Some, None, refl, sym, ap, ◌∙◌, subst}
use Rattle.call_fs.proofs.Maps.{put_at_cases, put_cases}
use Rattle.call_fs.specs.Apply.{changed, cut, effect, empty_file, grown, grown_part, overwritten, overwritten_part, synced, with_name, with_new}
use Rattle.call_fs.specs.Disk.{Disk, File, Open as OpenFile}
use Rattle.call_fs.specs.Maps.{put, put_at}
use Rattle.call_fs.specs.declared.calls.Answer.TheVariants as answer
use Rattle.call_fs.specs.declared.calls.Answer.{Answer}
use Rattle.call_fs.specs.declared.calls.CallData.TheVariants as call
use Rattle.call_fs.specs.declared.calls.CallData.{CallData}
use Rattle.call_fs.specs.declared.calls.FsError.TheVariants as why
use Rattle.call_fs.specs.declared.calls.Told.{Told}
use Rattle.call_fs.specs.declared.past.ChildData.{ChildData}
use Rattle.call_fs.specs.declared.past.GotData.TheVariants as came
use Rattle.call_fs.specs.declared.past.GotData.{GotData}
use Rattle.call_fs.specs.declared.past.NeedData.TheVariants as needs
use Rattle.call_fs.specs.declared.past.NeedData.{NeedData}
use Rattle.call_fs.specs.declared.past.Own.{Own}
use Rattle.program_law.specs.Delivery.Leaves.{LeavesButDrops}
use Rattle.program_law.proofs.Delivery.Apart.{names_are_apart}
use Rattle.queue_paths.proofs.Paths.{parse-path}
use Rattle.queue_paths.specs.Names.Name.{Of}
use Rattle.queue_paths.specs.Names.Part.{Info}
use Rattle.queue_paths.specs.Names.{parse, path}
use Rattle.world_events.specs.declared.event.Program.{Program}
use Rattle.world_events.specs.declared.event.Program.TheVariants.{Delivery}
use Rattle.mail_world.specs.History.{Actor, Event, Legal, Life, MayBear, MayDo, State, acted, after, disk_after, finished, next_of, program_of}
use Rattle.mail_world.specs.History.Event.{Start, Act, Child, Generation, Report, End, Stop, Moment, Halt}
use Rattle.mail_world.specs.History.Life.{Over, Stopped}
use Rattle.world_law.proofs.Leaves.{events_leave}
use Rattle.world_law.specs.Leaves.{LeavesOutside}
use Rattle.settle_law.proofs.NoLinks.{IsDelivery, IsLinkTo, none_links}

abbrev pub Bounded : Disk → ℕ → Type 0
Bounded d now = (n i : ℕ) → d.names (path (Of Info n)) ≡ Some i → (d.files i).moment ≤ now

no_number : {A : Type 0} (i : ℕ) → ◌≡◌ {A = Option ℕ} None (Some i) → A
no_number i e = absurd (cc)

same_number : (i j : ℕ) → ◌≡◌ {A = Option ℕ} (Some i) (Some j) → i ≡ j
same_number i j e = cc

-- What a call does to files

module _ (d : Disk) (now read : ℕ) (le : read ≤ now) (h : Bounded d now) where
  changed_bounded : (o : Option OpenFile) (g : File → File) → ((f : File) → f.moment ≤ now → (g f).moment ≤ now) → Bounded (changed d o g) now
  changed_bounded None g keep n i is = h n i is
  changed_bounded (Some o) g keep n i is = ⊎_elim
      (λ (c : (i ≡ o.number) × (put d.files o.number (g (d.files o.number)) i ≡ g (d.files o.number))).
      subst (λ (f : File). f.moment ≤ now) (sym c.1) (keep (d.files o.number) (subst (λ (k : ℕ). (d.files k).moment ≤ now) c.0 (h n i is))))
      (λ (c : (i ≢ o.number) × (put d.files o.number (g (d.files o.number)) i ≡ d.files i)). subst (λ (f : File). f.moment ≤ now) (sym c.1) (h n i is))
      (put_cases d.files o.number (g (d.files o.number)) i)

  grown_part_bounded : (more : List ℕ) (wrote : ℕ) (f : File) → f.moment ≤ now → (grown_part read more wrote f).moment ≤ now
  grown_part_bounded more zero f w = w
  grown_part_bounded more (suc k) f w = le

  over_part_bounded : (place : ℕ) (bytes : List ℕ) (wrote : ℕ) (f : File) → f.moment ≤ now → (overwritten_part read place bytes wrote f).moment ≤ now
  over_part_bounded place bytes zero f w = w
  over_part_bounded place bytes (suc k) f w = le

  new_bounded : (name : List ℕ) (fd m : ℕ) → Bounded (with_new d read name fd m) now
  new_bounded name fd m n i is = ⊎_elim
      (λ (c : (i ≡ m) × (put d.files m (empty_file read) i ≡ empty_file read)). subst (λ (f : File). f.moment ≤ now) (sym c.1) le)
      (λ (c : (i ≢ m) × (put d.files m (empty_file read) i ≡ d.files i)). subst (λ (f : File). f.moment ≤ now) (sym c.1) (h n i (old i c.0 is)))
      (put_cases d.files m (empty_file read) i)
    where
      old : (i : ℕ) → i ≢ m → put_at d.names name (Some m) (path (Of Info n)) ≡ Some i → d.names (path (Of Info n)) ≡ Some i
      old i far is = ⊎_elim
          (λ (c : (path (Of Info n) ≡ name) × (put_at d.names name (Some m) (path (Of Info n)) ≡ Some m)). absurd (far (same_number i m (sym is ∙ c.1))))
          (λ (c : (path (Of Info n) ≢ name) × (put_at d.names name (Some m) (path (Of Info n)) ≡ d.names (path (Of Info n)))). sym c.1 ∙ is)
          (put_at_cases d.names name (Some m) (path (Of Info n)))

  gone_bounded : (name : List ℕ) → Bounded (with_name d name None) now
  gone_bounded name n i is = ⊎_elim
      (λ (c : (path (Of Info n) ≡ name) × (put_at d.names name None (path (Of Info n)) ≡ None)). no_number i (sym c.1 ∙ is))
      (λ (c : (path (Of Info n) ≢ name) × (put_at d.names name None (path (Of Info n)) ≡ d.names (path (Of Info n)))). h n i (sym c.1 ∙ is))
      (put_at_cases d.names name None (path (Of Info n)))

  -- if no name of an info file is new by a link
  effect_bounded : (c : CallData) (told : Answer) (wrote : ℕ) → ((old new : List ℕ) → c ≡ call.Link old new → told ≡ answer.Done → (n i : ℕ) → put_at d.names new (d.names old) (path (Of Info n)) ≡ Some i
      → d.names (path (Of Info n)) ≡ Some i) → Bounded (effect d read c told wrote) now
  effect_bounded (call.CreateExcl name) (answer.Created fd m) wrote links = new_bounded name fd.0 m
  effect_bounded (call.Open name how) (answer.Opened fd) wrote links = h
  effect_bounded (call.Close fd) answer.Done wrote links = h
  effect_bounded (call.WriteAt fd place bytes) answer.Done wrote links = changed_bounded (d.opens fd.0) (overwritten read place bytes) (λ f w. le)
  effect_bounded (call.WriteAt fd place bytes) (answer.Refused why.Fault) wrote links = changed_bounded (d.opens fd.0) (overwritten_part read place bytes wrote) (over_part_bounded place bytes wrote)
  effect_bounded (call.Append fd bytes) answer.Done wrote links = changed_bounded (d.opens fd.0) (grown read bytes) (λ f w. le)
  effect_bounded (call.Append fd bytes) (answer.Refused why.Fault) wrote links = changed_bounded (d.opens fd.0) (grown_part read bytes wrote) (grown_part_bounded bytes wrote)
  effect_bounded (call.Truncate fd len) answer.Done wrote links = changed_bounded (d.opens fd.0) (cut len) (λ f w. w)
  effect_bounded (call.Sync fd) answer.Done wrote links = changed_bounded (d.opens fd.0) synced (λ f w. w)
  effect_bounded (call.Link old new) answer.Done wrote links = λ n i is. h n i (links old new refl refl n i is)
  effect_bounded (call.Unlink name) answer.Done wrote links = gone_bounded name
  effect_bounded c told wrote links = h

-- An event of an actor

module _ (s : State) (h : Bounded s.disk s.now) (a : List ℕ) (own : Own) (wrote : ℕ) (x : Actor) (le : own.read ≤ s.now) (due : next_of x.program x.past own.read own.ready ≡ own.due)
    (outside : LeavesOutside (Some x.program) s.disk (acted s a own wrote (Some x)).disk) where
  -- a delivery links drops alone
  by_delivery : (p : Program) → x.program ≡ p → IsDelivery p → (n : ℕ) → (disk_after s.disk own.read own.due own.came wrote).names (path (Of Info n)) ≡ s.disk.names (path (Of Info n))
  by_delivery (Delivery began words) e is n =
      let leaves : LeavesButDrops s.disk (acted s a own wrote (Some x)).disk = subst (λ (p : Program). LeavesOutside (Some p) s.disk (acted s a own wrote (Some x)).disk) e outside in
      leaves.names (path (Of Info n)) (names_are_apart.queue (Of Info n))
  by_delivery p e is n = absurd is

  others : (p : Program) → x.program ≡ p → (IsDelivery p → ⊥) → (old new : List ℕ) → own.due ≡ needs.File (call.Link old new) → (n i : ℕ) → put_at s.disk.names new (s.disk.names old) (path (Of Info n)) ≡ Some i
      → s.disk.names (path (Of Info n)) ≡ Some i
  others p e other old new link n i is = ⊎_elim
      (λ (c : (path (Of Info n) ≡ new) × (put_at s.disk.names new (s.disk.names old) (path (Of Info n)) ≡ s.disk.names old)).
      absurd (none_links p x.past own.read own.ready n other
      (subst (IsLinkTo n) (sym link ∙ sym due ∙ ap (λ (y : Program). next_of y x.past own.read own.ready) e) (ap parse (sym c.0) ∙ parse-path (Of Info n)))))
      (λ (c : (path (Of Info n) ≢ new) × (put_at s.disk.names new (s.disk.names old) (path (Of Info n)) ≡ s.disk.names (path (Of Info n)))). sym c.1 ∙ is)
      (put_at_cases s.disk.names new (s.disk.names old) (path (Of Info n)))

  deliveries : (p : Program) → x.program ≡ p → IsDelivery p → (old new : List ℕ) (told : Told) → own.due ≡ needs.File (call.Link old new) → own.came ≡ came.Answered told → told.answer ≡ answer.Done → (n i : ℕ)
      → put_at s.disk.names new (s.disk.names old) (path (Of Info n)) ≡ Some i → s.disk.names (path (Of Info n)) ≡ Some i
  deliveries p e is old new told link came_is done n i named =
      let now : (disk_after s.disk own.read own.due own.came wrote).names (path (Of Info n)) ≡ put_at s.disk.names new (s.disk.names old) (path (Of Info n)) =
      ap (λ (c : NeedData). (disk_after s.disk own.read c own.came wrote).names (path (Of Info n))) link
      ∙ ap (λ (g : GotData). (disk_after s.disk own.read (needs.File (call.Link old new)) g wrote).names (path (Of Info n))) came_is
      ∙ ap (λ (t : Answer). (effect s.disk own.read (call.Link old new) t wrote).names (path (Of Info n))) done in
      sym (by_delivery p e is n) ∙ now ∙ named

  links : (p : Program) → x.program ≡ p → (old new : List ℕ) (told : Told) → own.due ≡ needs.File (call.Link old new) → own.came ≡ came.Answered told → told.answer ≡ answer.Done → (n i : ℕ)
      → put_at s.disk.names new (s.disk.names old) (path (Of Info n)) ≡ Some i → s.disk.names (path (Of Info n)) ≡ Some i
  links (Delivery began words) e old new told link came_is done n i named = deliveries (Delivery began words) e tt old new told link came_is done n i named
  links p e old new told link came_is done n i named = others p e (λ x. x) old new link n i named

  by_call : (need : NeedData) (got : GotData) → own.due ≡ need → own.came ≡ got → Bounded (disk_after s.disk own.read need got wrote) s.now
  by_call (needs.File c) (came.Answered told) e g = effect_bounded s.disk s.now own.read le h c told.answer wrote
      (λ old new link done n i named. links x.program refl old new told (e ∙ ap (λ (y : CallData). needs.File y) link) g done n i named)
  by_call need got e g = h

  acted_bounded : Bounded (acted s a own wrote (Some x)).disk s.now
  acted_bounded = by_call own.due own.came refl refl

finished_bounded : (s : State) → Bounded s.disk s.now → (a : List ℕ) (life : Life) (o : Option Actor) → Bounded (finished s a life o).disk (finished s a life o).now
finished_bounded s h a life None = h
finished_bounded s h a life (Some x) = h

born_bounded : (s : State) → Bounded s.disk s.now → (a : List ℕ) (own : Own) (asked : ChildData) → own.due ≡ needs.Start asked → (o : Option Actor) → Bounded (acted s a own 0 o).disk (acted s a own 0 o).now
born_bounded s h a own asked due None = h
born_bounded s h a own asked due (Some x) = subst (λ (need : NeedData). Bounded (disk_after s.disk own.read need own.came 0) s.now) (sym due) h

-- Each event

pub infos_bounded : (d : Disk) → (h : List Event) → Legal d h → Bounded (after d h).disk (after d h).now
infos_bounded d [] legal = λ n i is. no_number i (sym (legal.empty Info n) ∙ is)
infos_bounded d (Start a program ∷ h) legal = infos_bounded d h legal.0
infos_bounded d (Act a own wrote ∷ h) legal =
    let s : State = after d h in
    let may : MayDo s a own wrote = legal.1 in
    let leaves = events_leave d (Act a own wrote) h legal in
    subst (λ (o : Option Actor). Bounded (acted s a own wrote o).disk (acted s a own wrote o).now) (sym may.reads.is)
    (acted_bounded s (infos_bounded d h legal.0) a own wrote may.actor may.reads.no_later may.due
    (subst (λ (o : Option Actor). LeavesOutside (program_of o) s.disk (acted s a own wrote o).disk) may.reads.is (leaves.outside refl)))
infos_bounded d (Child parent own a program ∷ h) legal =
    let s : State = after d h in
    let may : MayBear s parent own a program = legal.1 in
    born_bounded s (infos_bounded d h legal.0) parent own may.asked may.starts (s.actors parent)
infos_bounded d (Generation crew ∷ h) legal = infos_bounded d h legal.0
infos_bounded d (Report slot output ∷ h) legal = infos_bounded d h legal.0
infos_bounded d (End a read ready status ∷ h) legal = let s : State = after d h in finished_bounded s (infos_bounded d h legal.0) a (Over status) (s.actors a)
infos_bounded d (Stop a ∷ h) legal = let s : State = after d h in finished_bounded s (infos_bounded d h legal.0) a Stopped (s.actors a)
infos_bounded d (Moment m ∷ h) legal = λ n i is. let w = infos_bounded d h legal.0 n i is in let later = legal.1.no_earlier in omega (arith, w, later)
infos_bounded d (Halt how contents ∷ h) legal = infos_bounded d h legal.0
