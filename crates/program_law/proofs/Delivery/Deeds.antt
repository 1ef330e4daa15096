-- What a call does to the queue that is none of its own programs': it makes the file of a drop, writes one, or changes a name of one; or
-- it reads.
use Rattle.std.proofs.Common.{◌≡◌, ◌≢◌, ℕ, List, Option, Some, None, option_map, refl, sym, ap, ◌∙◌, subst}
use Rattle.call_fs.specs.declared.calls.Answer.{Answer}
use Rattle.call_fs.specs.declared.calls.Answer.TheVariants as answer
use Rattle.call_fs.specs.declared.calls.CallData.{CallData}
use Rattle.call_fs.specs.declared.calls.CallData.TheVariants as call
use Rattle.call_fs.specs.declared.modes.Mode.{Mode}
use Rattle.call_fs.specs.Apply.{Fits, IsNew, empty_file, with_name, with_new}
use Rattle.call_fs.specs.Disk.{File, Open}
use Rattle.call_fs.specs.Maps.{put}
use Rattle.call_fs.proofs.Maps.{put_other, put_at_other}
use Rattle.queue_inject.specs.declared.injection.Arguments.{Arguments}
use Rattle.queue_paths.specs.Names.{Name, Part, path}
use Rattle.queue_paths.specs.Names.Name.{Pid, Of}
use Rattle.queue_paths.specs.Names.Part.{Mess, Intd, Todo, Info, Local, Remote, Bounce}
use Rattle.queue_law.specs.Injectors.{IsHeld}
use Rattle.queue_law.specs.Numbers.{IsPidRole, NamesSuit, Queue, Role, Suits, entry}
use Rattle.queue_law.specs.Numbers.Role.{AsDrop, AsMessage, AsPart}
use Rattle.queue_law.specs.Senders.{OnlyReads, called_queue}
use Rattle.queue_law.specs.Steps.{Foreign}
use Rattle.queue_law.proofs.Closed.{with_fds}
use Rattle.queue_law.proofs.Deeds.{written}
use Rattle.queue_law.proofs.Looks.{find_some}
use Rattle.program_law.specs.Delivery.Names.{IsDropName}
use Rattle.program_law.specs.Delivery.Leaves.{IsDropOf, LeavesButDrops, LeavesButOwn, LeavesDrops}
use Rattle.program_law.proofs.Delivery.Apart.{no_queue_name}

-- what it leaves
pub record Leaves (a : List ℕ) (q r : Queue) : Type 0 where
  pub foreign : Foreign a q r
  pub outside : LeavesButDrops q.disk r.disk
  pub own : LeavesButOwn a q r
  pub drops : LeavesDrops a q r

same_maker : (o a : List ℕ) → AsDrop o ≡ AsDrop a → o ≡ a
same_maker o a e = cc

-- No name of the queue leads to the file of a drop

message_none : (actor : List ℕ) (args : Arguments) (o : List ℕ) (role : Role) → role ≡ AsMessage actor args → role ≡ AsDrop o → ⊥
message_none actor args o role h e = let w : AsMessage actor args ≡ AsDrop o = sym h ∙ e in cc

part_none : (part : Part) (n : ℕ) (o : List ℕ) (role : Role) → role ≡ AsPart part n → role ≡ AsDrop o → ⊥
part_none part n o role h e = let w : AsPart part n ≡ AsDrop o = sym h ∙ e in cc

suits_none : (x : Name) (i : ℕ) (role : Role) (o : List ℕ) → Suits x i role → role ≡ AsDrop o → ⊥
suits_none (Pid pid start seq) i role o h e = subst (IsPidRole start) e h
suits_none (Of Mess n) i role o h e = message_none h.1.0 h.1.1 o role h.1.2 e
suits_none (Of Intd n) i role o h e = part_none Todo n o role h e
suits_none (Of Todo n) i role o h e = part_none Todo n o role h e
suits_none (Of Info n) i role o h e = part_none Info n o role h e
suits_none (Of Local n) i role o h e = part_none Local n o role h e
suits_none (Of Remote n) i role o h e = part_none Remote n o role h e
suits_none (Of Bounce n) i role o h e = part_none Bounce n o role h e
suits_none (Of part n) i role o h e = absurd h

none_queued : (q : Queue) → NamesSuit q → (x : Name) (i : ℕ) (o : List ℕ) → q.disk.names (path x) ≡ Some i → q.role i ≡ AsDrop o → ⊥
none_queued q S x i o there made =
    suits_none x i (q.role i) o (S x (entry q.disk.files i) (find_some q.disk.names q.disk.files x i there)).0 made

-- Nothing

pub nothing : (a : List ℕ) (q : Queue) → Leaves a q q
nothing a q = record {
  foreign = record { names = λ _. refl; files = λ _ _ _. refl; opens = λ _ _ _ _ h. h; books = refl; role = λ _ _ _. refl };
  outside = record { names = λ _ _. refl; files = λ _ _ _ _. refl };
  own = record { files = λ _ _ _ _. refl; roles = λ _ _ _. refl };
  drops = record { stays = λ _ _ _ _ h. h; files = λ _ _ _ _ _. refl };
}

-- Descriptors

pub fds_leave : (a : List ℕ) (q : Queue) (opens : ℕ → Option Open) (holder : ℕ → Option (List ℕ))
    → ((o : List ℕ) (fd : ℕ) (how : Open) → o ≢ a → IsHeld q.disk.opens q.holder o fd how → IsHeld opens holder o fd how) → Leaves a q (with_fds q opens holder)
fds_leave a q opens holder others = record {
  foreign = record { names = λ _. refl; files = λ _ _ _. refl; opens = others; books = refl; role = λ _ _ _. refl };
  outside = record { names = λ _ _. refl; files = λ _ _ _ _. refl };
  own = record { files = λ _ _ _ _. refl; roles = λ _ _ _. refl };
  drops = record {
    stays = λ o name i _ h. record { placed = h.placed; there = h.there; made = h.made };
    files = λ _ _ _ _ _. refl;
  };
}

-- one that wasn't open
held_by_others : (opens : ℕ → Option Open) (holder : ℕ → Option (List ℕ)) (fd : ℕ) (v : Option Open) (w : Option (List ℕ)) → opens fd ≡ None
    → (o : List ℕ) (k : ℕ) (how : Open) → IsHeld opens holder o k how → IsHeld (put opens fd v) (put holder fd w) o k how
held_by_others opens holder fd v w free o k how h =
    let far : k ≢ fd = λ same. let e : opens k ≡ opens fd = ap opens same in let u = h.opened in absurd (cc) in
    record { opened = put_other opens fd v k far ∙ h.opened; held = put_other holder fd w k far ∙ h.held }

-- one that was this actor's
far_from : (holder : ℕ → Option (List ℕ)) (fd k : ℕ) (a o : List ℕ) → holder fd ≡ Some a → holder k ≡ Some o → o ≢ a → k ≢ fd
far_from holder fd k a o mine his other same =
    let e : holder k ≡ holder fd = ap holder same in
    let it : o ≡ a = cc in
    other it

kept_by_others : (opens : ℕ → Option Open) (holder : ℕ → Option (List ℕ)) (fd : ℕ) (a : List ℕ) → holder fd ≡ Some a
    → (o : List ℕ) (k : ℕ) (how : Open) → o ≢ a → IsHeld opens holder o k how → IsHeld (put opens fd None) (put holder fd None) o k how
kept_by_others opens holder fd a mine o k how other h =
    let far = far_from holder fd k a o mine h.held other in
    record { opened = put_other opens fd None k far ∙ h.opened; held = put_other holder fd None k far ∙ h.held }

pub shut_leaves : (a : List ℕ) (q : Queue) (fd : ℕ) → q.holder fd ≡ Some a → Leaves a q (with_fds q (put q.disk.opens fd None) (put q.holder fd None))
shut_leaves a q fd mine = fds_leave a q (put q.disk.opens fd None) (put q.holder fd None) (kept_by_others q.disk.opens q.holder fd a mine)

-- a reading
pub reads_leave : (q : Queue) (a : List ℕ) (read : ℕ) (c : CallData) (told : Answer) (wrote : ℕ) → OnlyReads q a c → Fits q.disk c told wrote
    → Leaves a q (called_queue q a read c told wrote q.role)
reads_leave q a read (call.Open name how) (answer.Opened fd) wrote may fits =
    fds_leave a q (put q.disk.opens fd.0 (option_map (λ n. record { number = n; mode = Mode.Opened how }) (q.disk.names name))) (put q.holder fd.0 (Some a))
    (λ o k held _ h. held_by_others q.disk.opens q.holder fd.0 (option_map (λ n. record { number = n; mode = Mode.Opened how }) (q.disk.names name)) (Some a) fits.not_open o k held h)
reads_leave q a read (call.Open name how) (answer.Refused why) wrote may fits = nothing a q
reads_leave q a read (call.Open name how) told wrote may fits = absurd fits
reads_leave q a read (call.ReadAt fd at len) (answer.Count count) wrote may fits = nothing a q
reads_leave q a read (call.ReadAt fd at len) (answer.Refused why) wrote may fits = nothing a q
reads_leave q a read (call.ReadAt fd at len) told wrote may fits = absurd fits
reads_leave q a read (call.Close fd) answer.Done wrote may fits = shut_leaves a q fd.0 may
reads_leave q a read (call.Close fd) told wrote may fits = absurd fits
reads_leave q a read (call.Stat name) (answer.Stat stat) wrote may fits = nothing a q
reads_leave q a read (call.Stat name) (answer.Refused why) wrote may fits = nothing a q
reads_leave q a read (call.Stat name) told wrote may fits = absurd fits
reads_leave q a read (call.NextName dir after) (answer.Name name) wrote may fits = nothing a q
reads_leave q a read (call.NextName dir after) answer.NoName wrote may fits = nothing a q
reads_leave q a read (call.NextName dir after) (answer.Refused why) wrote may fits = nothing a q
reads_leave q a read (call.NextName dir after) told wrote may fits = absurd fits
reads_leave q a read c told wrote may fits = absurd may

-- The file of a drop is made

abbrev pub made_drop : Queue → (a name : List ℕ) (fd i read : ℕ) → Queue
made_drop q a name fd i read = record {
  disk = with_new q.disk read name fd i;
  holder = put q.holder fd (Some a);
  books = q.books;
  role = put q.role i (AsDrop a);
}

module _ (a : List ℕ) (q : Queue) (name : List ℕ) (placed : IsDropName name) where
  -- it is no other name
  apart : (other : List ℕ) → (IsDropName other → ⊥) → other ≢ name
  apart other far same = far (subst IsDropName (sym same) placed)

  module _ (fd i read : ℕ) (new : IsNew q.disk name fd i) where
    unused : (other : List ℕ) (k : ℕ) → q.disk.names other ≡ Some k → k ≢ i
    unused other k there same = new.unused.unnamed other (there ∙ ap Some same)

    same_file : (other : List ℕ) (k : ℕ) → q.disk.names other ≡ Some k → put q.disk.files i (empty_file read) k ≡ q.disk.files k
    same_file other k there = put_other q.disk.files i (empty_file read) k (unused other k there)

    same_role : (other : List ℕ) (k : ℕ) → q.disk.names other ≡ Some k → put q.role i (AsDrop a) k ≡ q.role k
    same_role other k there = put_other q.role i (AsDrop a) k (unused other k there)

    taken : (other : List ℕ) (k : ℕ) → q.disk.names other ≡ Some k → other ≢ name
    taken other k there same =
        let e : q.disk.names other ≡ q.disk.names name = ap q.disk.names same in
        let free = new.free in
        absurd (cc)

    pub made_leaves : Leaves a q (made_drop q a name fd i read)
    made_leaves = record {
      foreign = record {
        names = λ x. put_at_other q.disk.names name (Some i) (path x) (apart (path x) (no_queue_name x));
        files = λ x k there. same_file (path x) k there;
        opens = λ o k how _ h. held_by_others q.disk.opens q.holder fd (Some (record { number = i; mode = Mode.Created })) (Some a) new.not_open o k how h;
        books = refl;
        role = same_role;
      };
      outside = record {
        names = λ other far. put_at_other q.disk.names name (Some i) other (apart other far);
        files = λ other k there _. same_file other k there;
      };
      own = record { files = λ other k there _. same_file other k there; roles = same_role };
      drops = record {
        stays = λ o other k _ h. record {
          placed = h.placed;
          there = put_at_other q.disk.names name (Some i) other (taken other k h.there) ∙ h.there;
          made = same_role other k h.there ∙ h.made;
        };
        files = λ o other k _ h. same_file other k h.there;
      };
    }

  -- a name of a drop comes or goes, that is none of another's drop
  pub named_leaves : (number : Option ℕ) → ((o other : List ℕ) (k : ℕ) → o ≢ a → IsDropOf q o other k → other ≢ name)
      → Leaves a q (record { disk = with_name q.disk name number; holder = q.holder; books = q.books; role = q.role })
  named_leaves number far = record {
    foreign = record {
      names = λ x. put_at_other q.disk.names name number (path x) (apart (path x) (no_queue_name x));
      files = λ _ _ _. refl;
      opens = λ _ _ _ _ h. h;
      books = refl;
      role = λ _ _ _. refl;
    };
    outside = record {
      names = λ other no. put_at_other q.disk.names name number other (apart other no);
      files = λ _ _ _ _. refl;
    };
    own = record { files = λ _ _ _ _. refl; roles = λ _ _ _. refl };
    drops = record {
      stays = λ o other k differs h. record {
        placed = h.placed;
        there = put_at_other q.disk.names name number other (far o other k differs h) ∙ h.there;
        made = h.made;
      };
      files = λ _ _ _ _ _. refl;
    };
  }

-- the file of a drop of its own is written
pub written_leaves : (a : List ℕ) (q : Queue) → NamesSuit q → (name : List ℕ) (i : ℕ) → IsDropOf q a name i → (f : File) → Leaves a q (written q i f)
written_leaves a q S name i it f = record {
  foreign = record {
    names = λ _. refl;
    files = λ x k there. put_other q.disk.files i f k (λ same. none_queued q S x k a there (ap q.role same ∙ it.made));
    opens = λ _ _ _ _ h. h;
    books = refl;
    role = λ _ _ _. refl;
  };
  outside = record {
    names = λ _ _. refl;
    files = λ other k there none. put_other q.disk.files i f k (λ same. none name it.placed (it.there ∙ ap Some (sym same)));
  };
  own = record {
    files = λ other k there foreign. put_other q.disk.files i f k (λ same. foreign (ap q.role same ∙ it.made));
    roles = λ _ _ _. refl;
  };
  drops = record {
    stays = λ o other k _ h. record { placed = h.placed; there = h.there; made = h.made };
    files = λ o other k differs h. put_other q.disk.files i f k (λ same. differs (same_maker o a (sym h.made ∙ ap q.role same ∙ it.made)));
  };
}
