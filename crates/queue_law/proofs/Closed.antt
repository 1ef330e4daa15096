-- What a program that works at a closed number does to the queue: a name of the number goes, a file of it is made or written, or a
-- descriptor is opened or closed.
use Rattle.std.proofs.Common.{◌≡◌, ◌≢◌, inl, inr, ℕ, List, false, Option, Some, None, refl, sym, ap, ◌∙◌, subst, ⊎_elim}
use Rattle.call_fs.specs.Disk.{File, Open}
use Rattle.call_fs.specs.Apply.{IsNew}
use Rattle.call_fs.proofs.Maps.{put_other, put_at_other, put_at_cases}
use Rattle.queue_paths.specs.Names.{Part, path}
use Rattle.queue_paths.specs.Names.Name.{Of}
use Rattle.queue_paths.specs.Names.Part.{Mess, Todo, Bounce}
use Rattle.queue_paths.specs.Parts.{is_todo, in_todo}
use Rattle.queue_paths.proofs.Parts.{todo_far, todo_same}
use Rattle.queue_law.proofs.Waits.{todo_role}
use Rattle.queue_law.specs.Numbers.{Entry, Queue, look, IsRecent, NamesSuit, About, about, IsTaken, IsQueued, Phase, NoneLost, Sound}
use Rattle.queue_law.specs.Numbers.Role.{AsPart}
use Rattle.queue_law.specs.Injectors.{IsHeld}
use Rattle.queue_law.specs.Rests.{IsOverdue, IsAccepted, IsClosed}
use Rattle.queue_law.specs.Steps.{Touches, Concerns, Apart, Elsewhere, Outside, IsForeignRole, LeavesOld}
use Rattle.queue_law.specs.Senders.{LeadsOn}
use Rattle.queue_law.proofs.Tests.{tells_number, tells_name}
use Rattle.queue_law.proofs.Looks.{find_gone, find_far, found}
use Rattle.queue_law.proofs.Frame.{about_same, still_there}
use Rattle.queue_law.proofs.Deeds.{made, written, named, unnamed, made_other, named_other, made_for, its_number, written_suits, written_old}
use Rattle.queue_law.proofs.Rests.{untouched}

-- the queue with other descriptors
abbrev pub with_fds : Queue → (ℕ → Option Open) → (ℕ → Option (List ℕ)) → Queue
with_fds q opens holder = record {
  disk = record { dirs = q.disk.dirs; names = q.disk.names; files = q.disk.files; opens = opens };
  holder = holder;
  books = q.books;
  role = q.role;
}

-- the queue without a name of a number
abbrev pub gone : Queue → ℕ → Part → Queue
gone q n part = named q (Of part n) None q.books

pub part_other : (q : Queue) (n : ℕ) (part p : Part) → p ≢ part → look (gone q n part) (Of p n) ≡ look q (Of p n)
part_other q n part p far = named_other q (Of part n) None q.books (Of p n) (λ same. far (cc))

pub part_gone : (q : Queue) (n : ℕ) (part : Part) → look (gone q n part) (Of part n) ≡ None
part_gone q n part = find_gone q.disk.names q.disk.files (Of part n)

pub part_lost : (q : Queue) (n : ℕ) (part p : Part) → look q (Of p n) ≡ None → look (gone q n part) (Of p n) ≡ None
part_lost q n part p none = ⊎_elim
    (λ (same : Of p n ≡ Of part n). ap (look (gone q n part)) same ∙ part_gone q n part)
    (λ (far : Of p n ≢ Of part n). named_other q (Of part n) None q.books (Of p n) far ∙ none)
    (tells_name (Of part n) (Of p n))

-- a name that is there then was there before
pub part_there : (q : Queue) (n : ℕ) (part p : Part) (y : Entry) → look (gone q n part) (Of p n) ≡ Some y → look q (Of p n) ≡ Some y
part_there q n part p y there = ⊎_elim
    (λ (same : Of p n ≡ Of part n). let w : look (gone q n part) (Of p n) ≡ None = ap (look (gone q n part)) same ∙ part_gone q n part in absurd (cc))
    (λ (far : Of p n ≢ Of part n). sym (named_other q (Of part n) None q.books (Of p n) far) ∙ there)
    (tells_name (Of part n) (Of p n))

pub part_suits : (q : Queue) → NamesSuit q → (n : ℕ) (part : Part) → NamesSuit (gone q n part)
part_suits q S n part y z h = ⊎_elim
    (λ (same : y ≡ Of part n). let w : look (gone q n part) y ≡ None = ap (look (gone q n part)) same ∙ part_gone q n part in absurd (cc))
    (λ (far : y ≢ Of part n). S y z (sym (named_other q (Of part n) None q.books y far) ∙ h))
    (tells_name (Of part n) y)

pub part_outside : (q : Queue) (n : ℕ) (part : Part) → Outside q.disk (gone q n part).disk
part_outside q n part = record {
  names = λ name far. put_at_other q.disk.names (path (Of part n)) None name (λ same. far (Of part n) (sym same));
  files = λ _ _. refl;
  unqueued = λ i out y is. ⊎_elim
      (λ c. let w = c.1 in absurd (cc))
      (λ c. out.unqueued y (sym c.1 ∙ is))
      (put_at_cases q.disk.names (path (Of part n)) None (path y));
}

-- the message, its role and its injection are as before, and so the number stays closed
pub closed_on : (now : ℕ) (q r : Queue) (n : ℕ) → look r (Of Mess n) ≡ look q (Of Mess n) → r.role n ≡ q.role n → r.books.living n ≡ q.books.living n
    → IsClosed now q n → IsClosed now r n
closed_on now q r n mess role living c = record {
  mess = c.mess;
  there = mess ∙ c.there;
  shut = ⊎_elim
      (λ over. inl (subst (IsOverdue now) (sym role) over))
      (λ (s : IsAccepted (about q n)). inr (record { injection = s.injection; lives = living ∙ s.lives; accepted = s.accepted }))
      c.shut;
}

-- what waits in todo still does, if its message and todo are as before
abbrev pub taken_same : (w v : About) → v.living ≡ w.living → v.parts Mess ≡ w.parts Mess → IsTaken w → IsTaken v
taken_same w v living mess h = record {
  injection = h.injection;
  lives = living ∙ h.lives;
  accepted = h.accepted;
  mess = h.mess;
  mess_there = mess ∙ h.mess_there;
  message = h.message;
  valid = h.valid;
  spots = h.spots;
}

abbrev pub queued_same : (w v : About) → v.living ≡ w.living → v.parts Mess ≡ w.parts Mess → in_todo v.parts ≡ in_todo w.parts
    → v.parts Bounce ≡ None → IsQueued w → IsQueued v
queued_same w v living mess todo bounce h = record {
  taken = taken_same w v living mess h.taken;
  todo = h.todo;
  todo_there = todo ∙ h.todo_there;
  text = h.text;
  no_bounce = bounce;
  fresh = h.fresh;
}

module _ (now : ℕ) (a : List ℕ) (q : Queue) (S : NamesSuit q) (n : ℕ) (c : IsClosed now q n) where
  -- no injector that may still call touches the number
  closed_apart : Apart now q a (Some n)
  closed_apart o args other soon y z there his touches same =
      let w : n ≡ z.number = cc in
      untouched now q n c o args soon (ap q.role w ∙ his) (subst (Touches q o args) (sym w) touches)

  pub part_elsewhere : (part : Part) → Elsewhere now a (Some n) q (gone q n part)
  part_elsewhere part = record {
    looks = λ y far. named_other q (Of part n) None q.books y (λ same. far (subst (λ z. Concerns q z (Some n)) (sym same) refl));
    living = λ _ _. refl;
    opens = λ _ _ _ _ h. h;
    roles = λ _ _ _. refl;
    apart = closed_apart;
    accepted = λ i h _. still_there q.books i h;
  }

  pub fds_elsewhere : (opens : ℕ → Option Open) (holder : ℕ → Option (List ℕ))
      → ((o : List ℕ) (fd : ℕ) (how : Open) → o ≢ a → IsHeld q.disk.opens q.holder o fd how → IsHeld opens holder o fd how)
      → Elsewhere now a (Some n) q (with_fds q opens holder)
  fds_elsewhere opens holder others = record {
    looks = λ _ _. refl;
    living = λ _ _. refl;
    opens = others;
    roles = λ _ _ _. refl;
    apart = closed_apart;
    accepted = λ i h _. still_there q.books i h;
  }

  -- a new file of the number
  module _ (part : Part) (fd i read : ℕ) (new : IsNew q.disk (path (Of part n)) fd i) where
    abbrev pub new_file : Queue
    new_file = made q a (Of part n) fd i read (AsPart part n)

    pub new_elsewhere : Elsewhere now a (Some n) q new_file
    new_elsewhere = record {
      looks = λ y far. made_other q (Of part n) a fd i read (AsPart part n) new y (λ same. far (subst (λ z. Concerns q z (Some n)) (sym same) refl));
      living = λ _ _. refl;
      opens = λ o k how other h.
          let w = new.not_open in
          let far : k ≢ fd = λ same. let v : q.disk.opens k ≡ q.disk.opens fd = ap q.disk.opens same in let u = h.opened in absurd (cc) in
          record { opened = put_other q.disk.opens fd _ k far ∙ h.opened; held = put_other q.holder fd _ k far ∙ h.held };
      roles = λ y z h. put_other q.role i (AsPart part n) z.number (unnamed q (Of part n) a fd i read (AsPart part n) new y z h);
      apart = closed_apart;
      accepted = λ j h _. still_there q.books j h;
    }

    pub new_other : (p : Part) → p ≢ part → look new_file (Of p n) ≡ look q (Of p n)
    new_other p far = made_other q (Of part n) a fd i read (AsPart part n) new (Of p n) (λ same. far (cc))

    pub new_closed : Mess ≢ part → IsClosed now new_file n
    new_closed far =
        let there = (found q.disk.names q.disk.files (Of Mess n) c.mess c.there).0 in
        let number : c.mess.number ≡ n = (S (Of Mess n) c.mess c.there).0.0 in
        let other : n ≢ i = λ same. new.unused.unnamed (path (Of Mess n)) (there ∙ ap Some (number ∙ same)) in
        closed_on now q new_file n (new_other Mess far) (put_other q.role i (AsPart part n) n other) refl c

  -- a file of the number is written
  module _ (part : Part) (file : Entry) (f : File) (there : look q (Of part n) ≡ Some file) (mine : q.role file.number ≡ AsPart part n) where
    abbrev pub new_bytes : Queue
    new_bytes = written q file.number f

    pub bytes_suit : NamesSuit new_bytes
    bytes_suit = written_suits now q S file.number f (subst (IsRecent f) (sym mine) tt)

    pub bytes_elsewhere : Elsewhere now a (Some n) q new_bytes
    bytes_elsewhere = record {
      looks = λ y far. find_far q.disk.names q.disk.files y file.number f (λ z h same.
          far (subst (λ k. Concerns q y (Some k)) (ap (λ k. made_for k (q.role k)) same ∙ ap (made_for file.number) mine) (its_number now q S y z h)));
      living = λ _ _. refl;
      opens = λ _ _ _ _ h. h;
      roles = λ _ _ _. refl;
      apart = closed_apart;
      accepted = λ i h _. still_there q.books i h;
    }

    pub bytes_outside : Outside q.disk new_bytes.disk
    bytes_outside = record {
      names = λ _ _. refl;
      files = λ k out. put_other q.disk.files file.number f k (λ same.
          out.unqueued (Of part n) ((found q.disk.names q.disk.files (Of part n) file there).0 ∙ ap Some (sym same)));
      unqueued = λ k out y is. out.unqueued y is;
    }

    pub bytes_old : LeavesOld q new_bytes
    bytes_old = written_old q file.number f (λ was. subst IsForeignRole mine was)

    pub bytes_mess : look new_bytes (Of Mess n) ≡ look q (Of Mess n)
    bytes_mess = find_far q.disk.names q.disk.files (Of Mess n) file.number f (λ y h same.
        let w = (S (Of Mess n) y h).0.1.2 in
        let v = ap q.role same in
        absurd (cc))

    pub bytes_todo : is_todo part ≡ false → in_todo (about new_bytes n).parts ≡ in_todo (about q n).parts
    bytes_todo far = todo_same (about q n).parts (about new_bytes n).parts (λ p is. find_far q.disk.names q.disk.files (Of p n) file.number f (λ y h same.
        let w = todo_role p n y.number (q.role y.number) is (S (Of p n) y h).0 in
        let v = ap q.role same in
        let u : AsPart Todo n ≡ AsPart part n = sym w ∙ v ∙ mine in
        todo_far Todo part refl far (cc)))

    pub bytes_closed : IsClosed now new_bytes n
    bytes_closed = closed_on now q new_bytes n bytes_mess refl refl c

-- what holds of the queue, after a step that concerns one number
pub leads_on : (now : ℕ) (a : List ℕ) (q r : Queue) (G : Sound q) (n : ℕ) → Elsewhere now a (Some n) q r → NamesSuit r
    → Phase (about r n) → NoneLost r.books → Outside q.disk r.disk → LeavesOld q r → LeadsOn now a (Some n) q r
leads_on now a q r G n E suits fine over outside old = record {
  sound = record {
    suits = suits;
    fine = λ k. ⊎_elim
        (λ (same : ◌≡◌ {A = Option ℕ} (Some n) (Some k)). let w : n ≡ k = cc in subst (λ j. Phase (about r j)) w fine)
        (λ far. subst Phase (sym (about_same now a (Some n) q r E k far)) (G.fine k))
        (tells_number (Some n) k);
    over = over;
  };
  elsewhere = E;
  outside = outside;
  old = old;
}
