pub mod CauseLaws
pub mod SoundCells
pub mod UnmetLaws
