pub mod RoundLaws
pub mod KindLaws
