pub mod PurseLaws
