-- A step of one actor that spares each closed number: what it leaves of all the others.
use Rattle.std.proofs.Common.{◌≡◌, ◌≢◌, inl, ℕ, List, Option, Some, None, refl, sym, ap, ◌∙◌, subst, codes}
use Rattle.address_rules.specs.declared.controls.Controls.{Controls}
use Rattle.call_fs.specs.declared.past.Own.{Own}
use Rattle.call_fs.specs.Maps.{put_at}
use Rattle.program_law.specs.Delivery.Leaves.{LeavesTmp}
use Rattle.program_law.specs.Errand.Errands.Awaits.{Answer}
use Rattle.queue_clean.specs.declared.command.Command.TheVariants.{Todo}
use Rattle.queue_clean.specs.Table.{Place, place_after}
use Rattle.local_spawn.specs.Table.{place_after as local_after}
use Rattle.remote_spawn.specs.Table.{place_after as spawn_after}
use Rattle.send_parts.specs.declared.row.Row.{Row}
use Rattle.send_parts.specs.declared.row.Row.TheVariants as at
use Rattle.send_core.specs.Table.{place_after as sender_after}
use Rattle.send_core.specs.Turn.{known_of}
use Rattle.send_jobs.specs.declared.slots.Slots.{Slots}
use Rattle.send_parts.specs.declared.book.Book.{Book}
use Rattle.send_parts.specs.declared.rows.FinishRow.TheVariants as finish
use Rattle.todo_pass.specs.declared.row.Row.{Row as PassRow}
use Rattle.todo_pass.specs.declared.row.Row.TheVariants as todo
use Rattle.todo_pass.specs.Disks.{HoldsTodo}
use Rattle.todo_pass.specs.Table.{Pass}
use Rattle.queue_law.specs.Cleaners.{CleanerStands, IsBeside}
use Rattle.queue_law.specs.Numbers.{Queue, About, Sound, about}
use Rattle.queue_law.specs.Rests.{IsClosed, Spares, SparesNames}
use Rattle.queue_law.specs.Steps.{Elsewhere}
use Rattle.queue_law.proofs.Frame.{injector_frame}
use Rattle.queue_law.proofs.RestIsKept.{rest_is_kept}
use Rattle.program_law.specs.Sender.InTodo.{IsExpected, PassGoesOn, TodoStands}
use Rattle.program_law.specs.Sender.LeftAlone.{LeavesPass, LeavesRow}
use Rattle.program_law.specs.Sender.Rows.{RowStands, Works, works}
use Rattle.program_law.specs.Sender.Stands.{SenderStands, SparesSorted}
use Rattle.program_law.specs.Sender.Waits.{awaits_at, awaits_in as awaits_in_pass}
use Rattle.program_law.proofs.Sender.Asking.{texts_keep}
use Rattle.program_law.proofs.Sender.LeftAlone.{senders_are_left_alone}
use Rattle.world_events.specs.declared.event.Program.{Program}
use Rattle.world_events.specs.declared.event.Program.TheVariants.{Injector, Cleaner, Sender, LocalSpawner, RemoteSpawner, Delivery}
use Rattle.mail_world.specs.History.{Actor, Life, State}
use Rattle.mail_world.specs.History.Life.{Alive, Over, Stopped}
use Rattle.mail_world.specs.Untouched.{queue}
use Rattle.world_law.specs.Bounces.{BouncesAreQueued}
use Rattle.world_law.specs.Crew.{IsNamed, awaits_in, is_alive, is_well, link_in, lives_in}
use Rattle.world_law.specs.Fares.{FaresBy}
use Rattle.world_law.specs.Inv.{ChildBy, ErrandsRest, Inv}
use Rattle.world_law.proofs.Gone.{errands_spared}
use Rattle.world_law.proofs.Forwarded.{delivery_left}
use Rattle.world_law.proofs.Held.{lspawn_holds, spawner_holds}
use Rattle.world_law.proofs.Moved.{IsSeenAs, each_put, put_errands}
use Rattle.world_law.proofs.Tenants.{GoesOn, one_child, one_crewed, one_keeps, tenants_kept}

-- What it leaves a sender at its row

module _ (now : ℕ) (q r : Queue) (a : List ℕ) (S : Spares now None q r) where
  no_number : (n : ℕ) → None ≢ Some n
  no_number n e = absurd (cc)

  -- until the cleaner has the command of a pass, its number rests
  held_pass : (controls : Controls) (p : Pass) → PassGoesOn controls now q a p → HoldsTodo p.row → (None ≢ Some p.n) × (about r p.n ≡ about q p.n)
  held_pass controls p h holds = (no_number p.n, S.abouts p.n (no_number p.n) (h.stands.rests holds).closed)

  pass_left : (controls : Controls) (row : PassRow) (p : Pass) → p.row ≡ row → TodoStands controls now q a row p → (row ≡ todo.Answer → IsClosed now q p.n) → LeavesPass row p None q r
  pass_left controls todo.Answer p e h asked = λ (x : IsExpected (about q p.n) (known_of p)).
      subst (λ (w : About). IsExpected w (known_of p)) (sym (S.abouts p.n (no_number p.n) (asked refl))) x
  pass_left controls todo.Done p e h asked = tt
  pass_left controls (todo.Left why) p e h asked = tt
  pass_left controls todo.Lost p e h asked = tt
  pass_left controls (todo.Clear t) p e h asked = held_pass controls p h (subst HoldsTodo (sym e) tt)
  pass_left controls todo.StatMess p e h asked = held_pass controls p h (subst HoldsTodo (sym e) tt)
  pass_left controls todo.OpenTodo p e h asked = held_pass controls p h (subst HoldsTodo (sym e) tt)
  pass_left controls (todo.ReadTodo fd) p e h asked = held_pass controls p h (subst HoldsTodo (sym e) tt)
  pass_left controls (todo.CloseTodo fd) p e h asked = held_pass controls p h (subst HoldsTodo (sym e) tt)
  pass_left controls (todo.Create t) p e h asked = held_pass controls p h (subst HoldsTodo (sym e) tt)
  pass_left controls (todo.Append t fd done) p e h asked = held_pass controls p h (subst HoldsTodo (sym e) tt)
  pass_left controls (todo.Sync t fd) p e h asked = held_pass controls p h (subst HoldsTodo (sym e) tt)
  pass_left controls (todo.Close t fd) p e h asked = held_pass controls p h (subst HoldsTodo (sym e) tt)
  pass_left controls (todo.Shut fd why) p e h asked = held_pass controls p h (subst HoldsTodo (sym e) tt)
  pass_left controls todo.Give p e h asked = held_pass controls p h (subst HoldsTodo (sym e) tt)

  answer_closed : (p : Pass) → ((n : ℕ) → awaits_at at.InTodo p ≡ Answer (Todo n) → IsClosed now q n) → p.row ≡ todo.Answer → IsClosed now q p.n
  answer_closed p asked e = asked p.n (ap (λ row. awaits_in_pass row p.n) e)

  row_left : (row : Row) (b : Book) (s : Slots) (p : Works) → RowStands now q a row b s p → ((n : ℕ) → awaits_at row p.pass ≡ Answer (Todo n) → IsClosed now q n)
      → LeavesRow row p.pass None q r
  row_left at.InTodo b s p h asked = pass_left b.controls p.pass.row p.pass refl h.1.1 (answer_closed p.pass asked)
  row_left (at.Finish finish.Give n) b s p h asked = no_number n
  row_left (at.Sweep row) b s p h asked = λ n is. no_number n
  row_left row b s p h asked = tt

-- the state after a step, with this actor in its place
abbrev pub stepped : State → List ℕ → Queue → Actor → State
stepped s a r y = record { disk = r.disk; holder = r.holder; now = s.now; actors = put_at s.actors a (Some y); books = r.books; pipework = s.pipework }

-- Each of the others, after a step that spares all closed numbers but the one in k

module _ (s : State) (I : Inv s) (a : List ℕ) (r : Queue) (m k : Option ℕ) (E : Elsewhere s.now a m (queue s I.role) r)
    (S : Spares s.now k (queue s I.role) r) (SS : SparesSorted (queue s I.role) r) (D : LeavesTmp a (queue s I.role) r) (G : Sound r)
    (B : BouncesAreQueued r.books) where
  abbrev before : Queue
  before = queue s I.role

  -- what it leaves another cleaner and another sender that live
  abbrev pub LeavesCleaner : List ℕ → Type 0
  LeavesCleaner o = (began : ℕ) (past : List Own) → s.actors o ≡ Some (record { program = Cleaner began; past = past; life = Alive })
      → CleanerStands s.now before (place_after past) → CleanerStands s.now r (place_after past)

  abbrev pub LeavesSender : List ℕ → Type 0
  LeavesSender o = (began : ℕ) (past : List Own) → s.actors o ≡ Some (record { program = Sender began; past = past; life = Alive })
      → SenderStands s.now before o (sender_after None past) → LeavesRow (sender_after None past).row (sender_after None past).pass k before r

  fares_other : (o : List ℕ) → o ≢ a → LeavesCleaner o → LeavesSender o → (program : Program) (past : List Own) (life : Life)
      → s.actors o ≡ Some (record { program = program; past = past; life = life }) → FaresBy s.now before o program past life → FaresBy s.now r o program past life
  fares_other o other cleaner sender (Injector args) past life is F = injector_frame s.now a m before r E o other args past (is_alive life) (is_well life) F
  fares_other o other cleaner sender (Cleaner began) past Alive is F = cleaner began past is F
  fares_other o other cleaner sender (Sender began) past Alive is F =
      let d = sender_after None past in
      record {
        stands = senders_are_left_alone.others s.now o a m k before r d E other SS S (sender began past is F.stands) F.stands;
        texts = texts_keep.others s.now before r o d SS F.stands F.texts;
      }
  fares_other o other cleaner sender (LocalSpawner began) past Alive is F = lspawn_holds before r o (λ fd how. E.opens o fd how other) (local_after past) F
  fares_other o other cleaner sender (RemoteSpawner began) past Alive is F = spawner_holds before r o (λ fd how. E.opens o fd how other) (spawn_after past).row F
  fares_other o other cleaner sender (Delivery began args) past life is F = delivery_left before r a o other D (λ fd how. E.opens o fd how other) E.accepted args past life F
  fares_other o other cleaner sender program past (Over status) is F = tt
  fares_other o other cleaner sender program past Stopped is F = tt

  pub led_keeps : ((o : List ℕ) → o ≢ a → LeavesCleaner o) → ((o : List ℕ) → o ≢ a → LeavesSender o) → (y : Actor) → IsNamed a y.program → GoesOn (s.actors a) y.program
      → ChildBy (stepped s a r y) a y.program y.past y.life → FaresBy s.now r a y.program y.past y.life → ErrandsRest (stepped s a r y) r.role → Inv (stepped s a r y)
  led_keeps cleaners senders y named goes child F errands = record {
    role = r.role;
    moment = I.moment;
    sound = G;
    bounces = B;
    crew = each_put s.actors a y (λ o z. IsNamed o z.program) named (λ o z _ is. I.crew o z is);
    fares = each_put s.actors a y (λ o z. FaresBy s.now r o z.program z.past z.life) F
        (λ o z other is. fares_other o other (cleaners o other) (senders o other) z.program z.past z.life is (I.fares o z is));
    crewed = one_crewed s.actors a y goes I.crewed;
    tenants = tenants_kept s (stepped s a r y) (one_keeps s.actors a y goes) (λ b z there. refl) (λ b d t h. inl h) I.tenants;
    child = one_child s (stepped s a r y) (one_keeps s.actors a y goes) (λ b d t h. inl h) I.tenants a y child I.child;
    errands = errands;
  }

-- So after one that spares all closed numbers

module _ (s : State) (I : Inv s) (a : List ℕ) (r : Queue) (m : Option ℕ) (E : Elsewhere s.now a m (queue s I.role) r)
    (S : Spares s.now None (queue s I.role) r) (N : SparesNames (queue s I.role) r) (SS : SparesSorted (queue s I.role) r)
    (D : LeavesTmp a (queue s I.role) r) (G : Sound r) (B : BouncesAreQueued r.books) where
  abbrev here : Queue
  here = queue s I.role

  beside_none : (p : Place) → IsBeside None p
  beside_none p n h = absurd (cc)

  -- what a living sender waits for is what the link says
  asked_closed : (o : List ℕ) (began : ℕ) (past : List Own) → s.actors o ≡ Some (record { program = Sender began; past = past; life = Alive })
      → (n : ℕ) → awaits_at (sender_after None past).row (sender_after None past).pass ≡ Answer (Todo n) → IsClosed s.now here n
  asked_closed o began past is n waits =
      let named : o ≡ codes "sender" = I.crew o (record { program = Sender began; past = past; life = Alive }) is in
      I.errands.asked n (ap awaits_in (ap s.actors (sym named) ∙ is) ∙ waits)

  stepped_errands : (y : Actor) → IsSeenAs (s.actors a) y → ErrandsRest (stepped s a r y) r.role
  stepped_errands y seen =
      put_errands s.now r s.actors a y s.pipework s.pipework seen (record { given = refl; answers = refl })
      (errands_spared s.now here r S (lives_in (s.actors (codes "clean"))) (link_in s) I.errands)

  pub stepped_keeps : (y : Actor) → IsNamed a y.program → GoesOn (s.actors a) y.program → IsSeenAs (s.actors a) y → ChildBy (stepped s a r y) a y.program y.past y.life
      → FaresBy s.now r a y.program y.past y.life → Inv (stepped s a r y)
  stepped_keeps y named goes seen child F =
      led_keeps s I a r m None E S SS D G B
      (λ o other began past is. rest_is_kept.spared s.now None here r S N (place_after past) (beside_none (place_after past)))
      (λ o other began past is h.
      let d = sender_after None past in row_left s.now here r o S d.row d.book d.slots (works d) h.rests (asked_closed o began past is))
      y named goes child F (stepped_errands y seen)
