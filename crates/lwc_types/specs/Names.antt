-- The order of names and of tags.
use Rattle.std.specs.Ordering.{nat_cmp, ordering_then}
use Rattle.std.specs.declared.cmp.Ordering.{Ordering}
use Rattle.lwc_types.specs.declared.name.Name.{Name}
use Rattle.lwc_types.specs.declared.name.Tag.{Tag}

-- names go by job, and then by number
abbrev pub name_cmp : Name → Name → Ordering
name_cmp a b = ordering_then (nat_cmp a.job b.job) (nat_cmp a.k b.k)

-- tags go by job, and then by number
abbrev pub tag_cmp : Tag → Tag → Ordering
tag_cmp a b = ordering_then (nat_cmp a.job b.job) (nat_cmp a.k b.k)
