use Rattle.std.proofs.Common.{◌≡◌, ◌<◌, ◌++◌, ◌∙◌, ap, arith, set, length, sym, length-append}
use Rattle.lwc_base.proofs.RepliesKept.{after-none, in-short, in-long, long-again, short-again, seen-at-short, seen-at-long, set-short, set-long}
use Rattle.lwc_base.proofs.replies.Replies.append.Goals as goal

pub index-requires : goal.index-requires
index-requires c = in-short _ _ _ c.self.view_is c.self.invariant c.args.request c.requires.there

pub index-requires-2 : goal.index-requires-2
index-requires-2 c = in-long _ _ _ c.self.view_is c.self.invariant c.args.request c.requires.there

pub index_mut-requires : goal.index_mut-requires
index_mut-requires c = in-long _ _ _ c.self.view_is c.self.invariant c.args.request c.requires.there

pub index_mut-requires-then-short-piece-le-MOST_SHORT_BYTES :
    goal.index_mut-requires-then-short-piece-le-MOST_SHORT_BYTES
index_mut-requires-then-short-piece-le-MOST_SHORT_BYTES c = in-short _ _ _ c.self.view_is c.self.invariant c.args.request c.requires.there

pub index_mut-long-requires : goal.index_mut-long-requires
index_mut-long-requires c = in-long _ _ _ c.self.view_is c.self.invariant c.args.request c.requires.there

pub append-requires : goal.append-requires
append-requires c =
    let same = long-again _ _ _ c.self.view_is c.self.invariant _ c.requires.there _ _ c.index-2.ensures c.index_mut.ensures.value in
    let some : 0 < length c.index_mut.result.now = grind (arith, same) in
    let is-long = seen-at-long _ _ _ c.self.view_is c.self.invariant _ c.requires.there _ c.index_mut.ensures.value some in
    (omega arith, omega (arith, c.requires.room, ap length is-long))

pub returns-then-not-is_empty : goal.returns-then-not-is_empty
returns-then-not-is_empty c =
    let same = long-again _ _ _ c.self.view_is c.self.invariant _ c.requires.there _ _ c.index-2.ensures c.index_mut.ensures.value in
    let some : 0 < length c.index_mut.result.now = grind (arith, same) in
    let is-long = seen-at-long _ _ _ c.self.view_is c.self.invariant _ c.requires.there _ c.index_mut.ensures.value some in
    let size = ap length c.append.ensures ∙ length-append c.index_mut.result.now c.args.piece.now in
    set-long _ _ _ c.self.view_is c.self.invariant _ c.requires.there c.append.new.self (omega (arith, some, size))
    ∙ ap (set c.args.self.now c.args.request) (c.append.ensures ∙ ap (λ bytes. bytes ++ c.args.piece.now) (sym is-long))

pub append-requires-then-short-piece-le-MOST_SHORT_BYTES :
    goal.append-requires-then-short-piece-le-MOST_SHORT_BYTES
append-requires-then-short-piece-le-MOST_SHORT_BYTES c =
    let same = short-again _ _ _ c.self.view_is c.self.invariant _ c.requires.there _ _ c.index.ensures c.index_mut-then-short-piece-le-MOST_SHORT_BYTES.ensures.value in
    (omega arith, omega (arith, c.if-short-piece-le-MOST_SHORT_BYTES.true, ap length c.as_slice-short.ensures.bytes, ap length same))

pub returns-then-short-piece-le-MOST_SHORT_BYTES : goal.returns-then-short-piece-le-MOST_SHORT_BYTES
returns-then-short-piece-le-MOST_SHORT_BYTES c =
    let none : length c.index-2.result.now ≡ 0 = grind arith in
    let is-short = seen-at-short _ _ _ c.self.view_is c.self.invariant _ c.requires.there _ _ c.index_mut-then-short-piece-le-MOST_SHORT_BYTES.ensures.value c.index-2.ensures none in
    set-short _ _ _ c.self.view_is c.self.invariant _ c.requires.there _ c.append-then-short-piece-le-MOST_SHORT_BYTES.new.self c.index-2.ensures none
    ∙ ap (set c.args.self.now c.args.request) (c.append-then-short-piece-le-MOST_SHORT_BYTES.ensures ∙ ap (λ bytes. bytes ++ c.args.piece.now) (sym is-short))

pub append-requires-else-short-piece-le-MOST_SHORT_BYTES :
    goal.append-requires-else-short-piece-le-MOST_SHORT_BYTES
append-requires-else-short-piece-le-MOST_SHORT_BYTES c =
    let same = long-again _ _ _ c.self.view_is c.self.invariant _ c.requires.there _ _ c.index-2.ensures c.index_mut-long.ensures.value in
    let none : length c.index_mut-long.result.now ≡ 0 = grind (arith, same) in
    (omega arith, omega (arith, none, ap length c.as_slice-short.ensures.bytes, c.as_slice-short.ensures.few))

pub append-requires-else-short-piece-le-MOST_SHORT_BYTES-2 :
    goal.append-requires-else-short-piece-le-MOST_SHORT_BYTES-2
append-requires-else-short-piece-le-MOST_SHORT_BYTES-2 c =
    let none : length c.index-2.result.now ≡ 0 = grind arith in
    let same = long-again _ _ _ c.self.view_is c.self.invariant _ c.requires.there _ _ c.index_mut-long.ensures.value c.index-2.ensures in
    let is-short = seen-at-short _ _ _ c.self.view_is c.self.invariant _ c.requires.there _ _ c.index.ensures c.index-2.ensures none in
    let moved = c.append-else-short-piece-le-MOST_SHORT_BYTES.ensures ∙ after-none _ _ (ap length same ∙ none) in
    (omega arith, omega (arith, c.requires.room, ap length is-short, ap length c.as_slice-short.ensures.bytes, ap length moved))

pub returns-else-short-piece-le-MOST_SHORT_BYTES : goal.returns-else-short-piece-le-MOST_SHORT_BYTES
returns-else-short-piece-le-MOST_SHORT_BYTES c =
    let none : length c.index-2.result.now ≡ 0 = grind arith in
    let same = long-again _ _ _ c.self.view_is c.self.invariant _ c.requires.there _ _ c.index_mut-long.ensures.value c.index-2.ensures in
    let is-short = seen-at-short _ _ _ c.self.view_is c.self.invariant _ c.requires.there _ _ c.index.ensures c.index-2.ensures none in
    let moved = c.append-else-short-piece-le-MOST_SHORT_BYTES.ensures ∙ after-none _ _ (ap length same ∙ none) ∙ c.as_slice-short.ensures.bytes in
    let written = c.append-else-short-piece-le-MOST_SHORT_BYTES-2.ensures ∙ ap (λ bytes. bytes ++ c.args.piece.now) moved in
    let size = ap length written ∙ length-append c.index.result.now c.args.piece.now in
    set-long _ _ _ c.self.view_is c.self.invariant _ c.requires.there c.append-else-short-piece-le-MOST_SHORT_BYTES-2.new.self
    (omega (arith, size, ap length c.as_slice-short.ensures.bytes, c.if-short-piece-le-MOST_SHORT_BYTES.false))
    ∙ ap (set c.args.self.now c.args.request) (written ∙ ap (λ bytes. bytes ++ c.args.piece.now) (sym is-short))
