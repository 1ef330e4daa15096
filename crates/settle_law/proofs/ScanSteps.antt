-- The scan of a sender's start passes over no preprocessed message.
use Rattle.std.proofs.Common.{◌≡◌, ◌≢◌, ◌⊎◌, inl, inr, ⊎_elim, ◌<◌, ◌≤◌, ◌^◌, ◌+◌, ℕ, List, [], ◌∷◌, set, take, Bool, true, false, if◌then◌else◌, Option, Some, None, refl, sym, ap, ◌∙◌, subst, arith}
use Rattle.std.specs.Ordering.{nat_cmp}
use Rattle.std.specs.Cmp.Lexicographic.{slice_cmp}
use Rattle.std.specs.declared.cmp.Ordering.TheVariants.{Less}
use Rattle.std.proofs.lemmas.Bool.{cases_lt, eq-eqb, le-leb, lt-ltb}
use Rattle.std.proofs.lemmas.List.{take_all}
use Rattle.address_rules.specs.Files.{Fault, first_fault, place}
use Rattle.address_rules.specs.declared.control_file.ControlFile.{ControlFile}
use Rattle.mail_bytes.specs.Decimal.{digits}
use Rattle.mail_bytes.proofs.Digits.{number_of-digits}
use Rattle.queue_paths.specs.Names.{split}
use Rattle.queue_states.proofs.MessageFiles.{is_part}
use Rattle.send_core.specs.Start.{start_at}
use Rattle.send_core.specs.declared.desk.Desk.{Desk}
use Rattle.send_parts.specs.declared.book.Book.{Book}
use Rattle.send_parts.specs.declared.reading.Progress.{Progress}
use Rattle.send_parts.specs.declared.reading.Progress.TheVariants.{Failed, Goes, Missing, Whole}
use Rattle.send_parts.specs.declared.reading.Reading.{Reading}
use Rattle.send_parts.specs.declared.reading.Reading.TheVariants.{Closing, Going, Opening, Shutting}
use Rattle.send_parts.specs.declared.reply.Way.{Way}
use Rattle.send_parts.specs.declared.reply.Way.TheVariants as way
use Rattle.send_parts.specs.declared.rows.StartRow.{StartRow}
use Rattle.send_parts.specs.declared.rows.StartRow.TheVariants as start
use Rattle.send_parts.specs.Files.{from_one, is_info, lying_in, message_number, number_below}
use Rattle.send_parts.specs.Readings.{read_on}
use Rattle.send_parts.specs.Replies.{Said}
use Rattle.send_parts.specs.Start.{act_start, by_way, control_read, file_after, greeted_local, greeted_remote, info_read, info_row, judged_by, next_file, remote_stated, scan_next, scan_row, scanned, start_failed}
use Rattle.settle_law.specs.inside.Met.{Comes, IsUpTo, LiesAhead, ScanComes, ScanShows}

-- the number that the text of a number is
pub number_read : (n : ℕ) → 1 ≤ n → n < 2 ^ 64 → message_number (digits n) ≡ Some n
number_read n low high = ap from_one (number_of-digits n high) ∙ from_it n low where
  from_it : (m : ℕ) → 1 ≤ m → from_one (Some m) ≡ Some m
  from_it m some = ap (λ (b : Bool). if b then Some m else None) (le-leb 1 m some)

module _ (n : ℕ) (low : 1 ≤ n) (high : n < 2 ^ 64) where
  abbrev Then : Book → Type 0
  Then b = ScanComes b.row b.after n

  -- before the first name of a directory
  first_ahead : (dir : ℕ) → dir ≤ split n → LiesAhead dir [] n
  first_ahead dir upto = ⊎_elim (λ (below : dir < split n). inl below) (λ (past : split n ≤ dir). inr (let same : dir ≡ split n = omega arith in same, (is_part n high).later)) (cases_lt dir (split n))

  failed_comes : (w : Way) (last : List ℕ) → ScanComes (start_failed w) last n
  failed_comes way.NoMemory last = tt
  failed_comes w last = tt

  -- The control files and the spawners' bytes

  judged_comes : (o : Option Fault) (b : Book) → Then (judged_by o b)
  judged_comes None b = tt
  judged_comes (Some fault) b = tt

  file_comes : (o : Option ControlFile) (b : Book) → Then (next_file o b)
  file_comes None b = judged_comes (first_fault b.files) b
  file_comes (Some next) b = tt

  control_comes : (p : Progress) (f : ControlFile) (reading : Reading) (s : Said) (b : Book) → Then (control_read p f reading s b)
  control_comes (Goes (Shutting fd)) f reading s b = failed_comes s.way b.after
  control_comes (Goes next) f reading s b = tt
  control_comes Whole f reading s b = file_comes (file_after f) (record b { files = set b.files (place f) (Some b.read) })
  control_comes Missing f reading s b = file_comes (file_after f) (record b { files = set b.files (place f) None })
  control_comes Failed f reading s b = failed_comes s.way b.after

  local_comes : (w : Way) (bytes : List ℕ) (b : Book) → Then (greeted_local w bytes b)
  local_comes way.Fine (byte ∷ rest) b = tt
  local_comes w bytes b = tt

  remote_comes : (w : Way) (bytes : List ℕ) (b : Book) → Then (greeted_remote w bytes b)
  remote_comes way.Fine (byte ∷ rest) b = first_ahead 0 (omega arith)
  remote_comes w bytes b = tt

  -- The searches

  row_ahead : (o : Option ℕ) (dir : ℕ) (last : List ℕ) → LiesAhead dir last n → ScanComes (scan_row o dir) last n
  row_ahead None dir last h = h
  row_ahead (Some m) dir last h = inr h

  -- its number is taken in its directory
  number_here : (dir : ℕ) → dir ≡ split n → number_below dir (digits n) ≡ Some n
  number_here dir same = ap (lying_in dir) (number_read n low high) ∙ ap (λ (b : Bool). if b then Some n else None) (eq-eqb (split n) dir (sym same))

  named_comes : (text : List ℕ) (dir : ℕ) → dir ≡ split n → IsUpTo text n → ScanComes (scan_row (number_below dir text) dir) (take 255 text) n
  named_comes text dir same h = ⊎_elim
      (λ (this : text ≡ digits n).
      subst (λ (o : Option ℕ). ScanComes (scan_row o dir) (take 255 text) n) (sym (ap (number_below dir) this ∙ number_here dir same)) (inl refl))
      (λ (less : slice_cmp nat_cmp text (digits n) ≡ Less).
      row_ahead (number_below dir text) dir (take 255 text) (inr (same, ap (λ (t : List ℕ). slice_cmp nat_cmp t (digits n)) (take_all 255 text h.0) ∙ less)))
      h.1

  next_comes : (dir : ℕ) (b : Book) → dir < split n → Then (scan_next dir b)
  next_comes dir b below =
      let small : dir < 22 = omega arith in
      subst (λ (x : Bool). ScanComes (if x then start.Scan (dir + 1) else start.Over) [] n) (sym (lt-ltb dir 22 small)) (first_ahead (dir + 1) (omega arith))

  scan_comes : (w : Way) (text : List ℕ) (dir : ℕ) (b : Book)
      → (dir ≡ split n → slice_cmp nat_cmp b.after (digits n) ≡ Less → (w ≡ way.Fine → IsUpTo text n) × (w ≢ way.Over)) → LiesAhead dir b.after n → Then (scanned w text dir b)
  scan_comes way.Fine text dir b shows h = ⊎_elim
      (λ (below : dir < split n). row_ahead (number_below dir text) dir (take 255 text) (inl below))
      (λ (here : (dir ≡ split n) × (slice_cmp nat_cmp b.after (digits n) ≡ Less)). named_comes text dir here.0 ((shows here.0 here.1).0 refl))
      h
  scan_comes way.Over text dir b shows h = ⊎_elim
      (λ (below : dir < split n). next_comes dir b below)
      (λ (here : (dir ≡ split n) × (slice_cmp nat_cmp b.after (digits n) ≡ Less)). absurd ((shows here.0 here.1).1 refl))
      h
  scan_comes way.Absent text dir b shows h = tt
  scan_comes way.Broken text dir b shows h = tt
  scan_comes way.NoMemory text dir b shows h = tt

  -- The files of a number

  todo_comes : (w : Way) (dir m : ℕ) (last : List ℕ) → (m ≡ n → w ≢ way.Fine) → (m ≡ n) ⊎ LiesAhead dir last n → ScanComes (by_way w (start.Scan dir) (start.ReadInfo dir m Opening)) last n
  todo_comes way.Fine dir m last shows (inl this) = absurd (shows this refl)
  todo_comes way.Fine dir m last shows (inr ahead) = ahead
  todo_comes way.Absent dir m last shows h = h
  todo_comes way.Over dir m last shows h = tt
  todo_comes way.Broken dir m last shows h = tt
  todo_comes way.NoMemory dir m last shows h = tt

  whole_comes : (x : Bool) (dir m : ℕ) (last : List ℕ) → (m ≡ n → x ≡ true) → (m ≡ n) ⊎ LiesAhead dir last n → ScanComes (info_row x dir m) last n
  whole_comes true dir m last shows h = h
  whole_comes false dir m last shows (inl this) = absurd (let bad : false ≡ true = shows this in cc)
  whole_comes false dir m last shows (inr ahead) = ahead

  info_comes : (p : Progress) (dir m : ℕ) (reading : Reading) (s : Said) (b : Book) → (m ≡ n → (p ≢ Missing) × (p ≡ Whole → is_info b.read ≡ true)) → (m ≡ n) ⊎ LiesAhead dir b.after n
      → Then (info_read p dir m reading s b)
  info_comes (Goes (Shutting fd)) dir m reading s b shows h = failed_comes s.way b.after
  info_comes (Goes Opening) dir m reading s b shows h = h
  info_comes (Goes (Going fd)) dir m reading s b shows h = h
  info_comes (Goes (Closing fd)) dir m reading s b shows h = h
  info_comes Whole dir m reading s b shows h = whole_comes (is_info b.read) dir m b.after (λ this. (shows this).1 refl) h
  info_comes Missing dir m reading s b shows (inl this) = absurd ((shows this).0 refl)
  info_comes Missing dir m reading s b shows (inr ahead) = ahead
  info_comes Failed dir m reading s b shows h = failed_comes s.way b.after

  stat_comes : (w : Way) (dir m birth : ℕ) (last : List ℕ) → (m ≡ n → w ≢ way.Absent) → (m ≡ n) ⊎ LiesAhead dir last n
      → ScanComes (by_way w (start.StatLocal dir m birth) (start.Scan dir)) last n
  stat_comes way.Fine dir m birth last shows h = h
  stat_comes way.Absent dir m birth last shows (inl this) = absurd (shows this refl)
  stat_comes way.Absent dir m birth last shows (inr ahead) = ahead
  stat_comes way.Over dir m birth last shows h = tt
  stat_comes way.Broken dir m birth last shows h = tt
  stat_comes way.NoMemory dir m birth last shows h = tt

  lane_comes : (w : Way) (dir m birth : ℕ) (last : List ℕ) → (m ≡ n) ⊎ LiesAhead dir last n
      → ScanComes (by_way w (start.StatRemote dir m birth true) (start.StatRemote dir m birth false)) last n
  lane_comes way.Fine dir m birth last h = h
  lane_comes way.Absent dir m birth last h = h
  lane_comes way.Over dir m birth last h = tt
  lane_comes way.Broken dir m birth last h = tt
  lane_comes way.NoMemory dir m birth last h = tt

  looked_comes : (w : Way) (dir m birth : ℕ) (local : Bool) (b : Book) → LiesAhead dir b.after n → Then (remote_stated w dir m birth local b)
  looked_comes way.Fine dir m birth local b ahead = ahead
  looked_comes way.Absent dir m birth local b ahead = ahead
  looked_comes way.Over dir m birth local b ahead = tt
  looked_comes way.Broken dir m birth local b ahead = tt
  looked_comes way.NoMemory dir m birth local b ahead = tt

  -- Each row: the sender has still to come to it, or looked at its channel files just now

  abbrev pub Looks : StartRow → Type 0
  Looks (start.StatRemote dir m birth local) = m ≡ n
  Looks row = ⊥

  abbrev pub IsUnderWay : StartRow → Type 0
  IsUnderWay (start.Ended status) = ⊥
  IsUnderWay row = Unit {0}

  pub start_comes : (row : StartRow) (s : Said) (b : Book) → IsUnderWay row → ScanShows row b s n → ScanComes row b.after n → Looks row ⊎ Then (act_start row s b)
  start_comes (start.Control f reading) s b going shows h = inr (control_comes (read_on reading s) f reading s b)
  start_comes start.GreetLocal s b going shows h = inr (local_comes s.way s.bytes b)
  start_comes (start.GreetRemote limit) s b going shows h = inr (remote_comes s.way s.bytes b)
  start_comes (start.Scan dir) s b going shows h = inr (scan_comes s.way s.bytes dir b shows h)
  start_comes (start.StatTodo dir m) s b going shows h = inr (todo_comes s.way dir m b.after shows h)
  start_comes (start.ReadInfo dir m reading) s b going shows h = inr (info_comes (read_on reading s) dir m reading s b shows h)
  start_comes (start.StatInfo dir m) s b going shows h = inr (stat_comes s.way dir m s.stat.moment b.after shows h)
  start_comes (start.StatLocal dir m birth) s b going shows h = inr (lane_comes s.way dir m birth b.after h)
  start_comes (start.StatRemote dir m birth local) s b going shows (inl this) = inl this
  start_comes (start.StatRemote dir m birth local) s b going shows (inr ahead) = inr (looked_comes s.way dir m birth local b ahead)
  start_comes start.Over s b going shows h = absurd h
  start_comes (start.Ended status) s b going shows h = absurd going

  -- where the start leads
  pub leads_comes : (row : StartRow) (d : Desk) → ScanComes row d.book.after n → Comes (start_at row) d n
  leads_comes start.Over d h = absurd h
  leads_comes (start.Ended status) d h = tt
  leads_comes row d h = h
