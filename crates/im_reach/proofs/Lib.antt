pub mod AlteredLaws
pub mod RestLaws
