-- Values that move, as they are found.
use Rattle.std.proofs.Common.{◌≡◌, refl, sym, ap, ◌∙◌, true, false}
use Rattle.lwc_base.specs.declared.cell.Cell.{Cell}
use Rattle.lwc_base.specs.declared.item.Mode.{Mode}
use Rattle.lwc_base.specs.declared.item.Mode.TheVariants.{Copy, Share, Unmap, CopyRead}
use Rattle.lwc_base.specs.Keys.{ValueOf}
use Rattle.lwc_base.specs.Sharing.{has_own, is_moved}
use Rattle.lwc_types.specs.declared.key.Key.{Key}

-- what moves is of mode share, and the context's own
pub moves-share : (m : Mode) (k : Key) (cell : Cell (ValueOf k)) → is_moved m k cell ≡ true → m ≡ Share
moves-share Copy k cell is = cc
moves-share Share k cell is = refl
moves-share Unmap k cell is = cc
moves-share CopyRead k cell is = cc

pub moves-own : (m : Mode) (k : Key) (cell : Cell (ValueOf k)) → is_moved m k cell ≡ true → has_own k cell ≡ true
moves-own Copy k cell is = cc
moves-own Share k cell is = is
moves-own Unmap k cell is = cc
moves-own CopyRead k cell is = cc

pub stays : (m : Mode) (k : Key) (cell : Cell (ValueOf k)) → is_moved m k cell ≡ false → m ≡ Share → has_own k cell ≡ false
stays m k cell is share = ap (λ n. is_moved n k cell) (sym share) ∙ is

-- what is not the context's own stays, whatever its mode
pub still : (m : Mode) (k : Key) (cell : Cell (ValueOf k)) → has_own k cell ≡ false → is_moved m k cell ≡ false
still Copy k cell off = refl
still Share k cell off = off
still Unmap k cell off = refl
still CopyRead k cell off = refl
