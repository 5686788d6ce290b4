pub mod PlainCodeLaws
pub mod PairLaws
pub mod BackLaws
pub mod ComponentLaws
