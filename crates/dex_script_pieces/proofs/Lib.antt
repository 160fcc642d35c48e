mod Behind
mod Made
