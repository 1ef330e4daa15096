-- What the fields of instructions keep.
use Rattle.std.specs.Prelude.{◌≤◌, length, take, drop}
use Rattle.local_parts.specs.declared.course.Course.TheInside.{Inside}
use Rattle.local_parts.specs.Course.{Course}

abbrev pub course_inside : Inside → Course
course_inside i = record { done = take i.next i.lines.items; ahead = drop i.next i.lines.items }

abbrev pub IsWithin : Inside → Type 0
IsWithin i = i.next ≤ length i.lines.items
