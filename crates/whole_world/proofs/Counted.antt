-- Tags that are counted holder by holder: what is counted so far, and what is left to count.
use Rattle.std.proofs.Common.{◌≡◌, ℕ, ◌+◌, ◌≤◌, List, [], ◌++◌, length, ap, arith, append_assoc, length-append}
use Rattle.lwc_types.specs.declared.name.Tag.{Tag}
use Rattle.whole_world.specs.Tags.{times, different}
use Rattle.whole_world.proofs.TagLists.{times-append, times-le-length, times-nil, different-append_least, different-append_most}

-- the count, with how often the tag is in the rest, is how often it is in all
pub record IsCounted (tag : Tag) (all rest : List Tag) (count : ℕ) : Type 0 where
  pub sum : count + times tag rest ≡ times tag all
  pub few : length rest ≤ length all

-- the count, with how many different ones are in the rest and in others, is how many are in all and in others
pub record IsCountedNew (others all rest : List Tag) (count : ℕ) : Type 0 where
  pub sum : count + different (rest ++ others) ≡ different (all ++ others)
  pub few : length rest ≤ length all

-- the tags of one holder more are counted
pub counted_more : (tag : Tag) (all front after : List Tag) (count more : ℕ) → IsCounted tag all (front ++ after) count → more ≡ times tag front →
    IsCounted tag all after (count + more)
counted_more tag all front after count more before is = record {
  sum = omega (arith, before.sum, times-append tag front after, is);
  few = omega (arith, before.few, length-append front after);
}

pub counted_new_more : (others all front after : List Tag) (count more : ℕ) → IsCountedNew others all (front ++ after) count →
    more + different (after ++ others) ≡ different (front ++ (after ++ others)) → IsCountedNew others all after (count + more)
counted_new_more others all front after count more before is = record {
  sum = omega (arith, before.sum, is, ap different (append_assoc front after others));
  few = omega (arith, before.few, length-append front after);
}

-- no more is counted than there is
pub counted-le-length : (tag : Tag) (all rest : List Tag) (count : ℕ) → IsCounted tag all rest count → count ≤ length all
counted-le-length tag all rest count counted = omega (arith, counted.sum, times-le-length tag all)

pub counted_new-le-length : (others all rest : List Tag) (count : ℕ) → IsCountedNew others all rest count → count ≤ length all
counted_new-le-length others all rest count counted = omega (arith, counted.sum, different-append_least rest others, different-append_most all others)

-- the holder that is next has no more tags than all
pub next-le-length : (all front after : List Tag) → length (front ++ after) ≤ length all → length front ≤ length all
next-le-length all front after few = omega (arith, few, length-append front after)

-- once nothing is left
pub counted_all : (tag : Tag) (all : List Tag) (count : ℕ) → IsCounted tag all [] count → count ≡ times tag all
counted_all tag all count counted = omega (arith, counted.sum, times-nil tag)

pub counted_new_all : (others all : List Tag) (count : ℕ) → IsCountedNew others all [] count → count + different others ≡ different (all ++ others)
counted_new_all others all count counted = counted.sum
