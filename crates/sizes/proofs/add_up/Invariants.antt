-- Request 3's invariant: "after each field the sum so far and that field's offset together are the record's size". So the sum fits, and at the
-- first field it is the size.
use Rattle.std.proofs.Common.{ℕ, ◌≡◌, ◌<◌, ◌+◌, length, get_or, []}
use Rattle.semantics.specs.Words.{word}
use Rattle.semantics.specs.Table.{fields, item, record_target, first_field, field_offset, size_of}
use Rattle.sizes.proofs.add_up.Given as goal

abbrev pub invariant-loop-words : goal.invariant-loop-words
invariant-loop-words l =
    let left = l.words-iterator.iter.rest.now in
    record {
      entries : (f : ℕ) → f < length left → word (get_or left f []) 1 ≡ item l.t fields (first_field l.t l.r + f) 1;
      sum_left : l.sum + field_offset l.t l.r (length left) ≡ size_of l.t (record_target l.r);
    }
